use Rattle.std.proofs.Common.{◌≡◌, ◌++◌, take}
use Rattle.std.specs.{List.{flat_map}, String.{string_bytes}}
use Rattle.sect_answers.specs.Conflicting.{pair_line}
use Rattle.sect_answers.proofs.conflicts.put_pairs.Given as goal

abbrev pub invariant-loop-pair : goal.invariant-loop-pair
invariant-loop-pair l =
    string_bytes l.text ≡ string_bytes l.initial.text ++ flat_map (pair_line l.program) (take l.pair-index l.pairs)
