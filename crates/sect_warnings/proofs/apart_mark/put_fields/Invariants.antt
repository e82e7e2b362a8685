use Rattle.std.proofs.Common.{◌≡◌, ◌++◌, take}
use Rattle.std.specs.{Prelude.{codes}, List.{flat_map}, String.{string_bytes}}
use Rattle.sect_warnings.specs.Labels.{field_text}
use Rattle.sect_warnings.proofs.apart_mark.put_fields.Given as goal

abbrev pub invariant-loop-field : goal.invariant-loop-field
invariant-loop-field l =
    string_bytes l.text ≡ string_bytes l.initial.text
    ++ flat_map (λ f. codes ", " ++ field_text l.program.source f) (take l.field-index l.others)
