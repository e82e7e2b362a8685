use Rattle.std.proofs.Common.{◌≡◌, ◌++◌, take}
use Rattle.std.specs.{Prelude.{codes}, List.{flat_map}, String.{string_bytes}}
use Rattle.sect_answers.specs.Conflicting.{path_pair_text}
use Rattle.sect_answers.proofs.conflicts.put_path_pairs.Given as goal

abbrev pub invariant-loop-pair : goal.invariant-loop-pair
invariant-loop-pair l =
    string_bytes l.text ≡ string_bytes l.initial.text
    ++ flat_map (λ q. codes ", or " ++ path_pair_text l.program.source q) (take l.pair-index l.others)
