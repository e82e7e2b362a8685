use Rattle.sect_hints.proofs.GuardLaws.{ArePassed}
use Rattle.sect_hints.proofs.hints.judge.Given as goal

abbrev pub invariant-loop-number : goal.invariant-loop-number
invariant-loop-number l = ArePassed l.program l.number l.list.items
