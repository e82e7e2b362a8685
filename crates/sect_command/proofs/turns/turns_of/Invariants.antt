use Rattle.std.proofs.Common.{◌++◌, map, take, codes}
use Rattle.std.specs.String.{string_bytes}
use Rattle.clap.specs.Matches.{found_of}
use Rattle.sect_command.specs.Saying.{AreTurns, values_in}
use Rattle.sect_command.proofs.turns.turns_of.Given as goal

abbrev pub invariant-loop-word : goal.invariant-loop-word
invariant-loop-word l = AreTurns (values_in (found_of l.matches) (codes "threads")
    ++ map string_bytes (take l.word-index l.untold)) l.turns.threads.items l.turns.counts.items
