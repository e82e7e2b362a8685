use Rattle.std.proofs.Common.{map, take}
use Rattle.sect_command.specs.Saying.{AreTurns}
use Rattle.sect_command.proofs.turns.found_turns.Given as goal

abbrev pub invariant-loop-word : goal.invariant-loop-word
invariant-loop-word l =
    AreTurns (map (λ v. v.now) (take l.word-index l.words)) l.turns.threads.items l.turns.counts.items
