use Rattle.std.proofs.Common.{◌≡◌, ◌++◌, take}
use Rattle.std.specs.{Prelude.{codes}, List.{flat_map}, String.{string_bytes}}
use Rattle.sect_names.specs.Printing.{field_name}
use Rattle.sect_names.proofs.printing.put_path.Given as goal

abbrev pub invariant-loop-field : goal.invariant-loop-field
invariant-loop-field l =
    string_bytes l.text ≡ string_bytes l.initial.text
    ++ flat_map (λ f. codes "." ++ field_name l.program.source f) (take l.field-index l.field-items)
