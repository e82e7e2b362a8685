use Rattle.std.proofs.Common.{◌≡◌, ◌++◌, map, take}
use Rattle.std.specs.{Prelude.{codes}, List.{flat_map}, String.{string_bytes}}
use Rattle.sect_legend.proofs.classes.put_listed.Given as goal

abbrev pub invariant-loop-other : goal.invariant-loop-other
invariant-loop-other l =
    string_bytes l.text ≡ string_bytes l.initial.text
    ++ flat_map (λ other. codes ", " ++ other) (map (λ name. name.now) (take l.other-index l.others))
