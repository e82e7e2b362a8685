use Rattle.std.specs.Prelude.{⊤}
use Rattle.sect_answers.proofs.naming.near_name.Given as goal

abbrev pub invariant-loop-thread : goal.invariant-loop-thread
invariant-loop-thread l = ⊤
