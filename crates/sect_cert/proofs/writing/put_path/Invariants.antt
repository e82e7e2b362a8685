use Rattle.std.proofs.Common.{◌≡◌, ◌++◌, drop}
use Rattle.std.specs.List.{flat_map}
use Rattle.sect_cert.specs.steps.Writes.{field_text}
use Rattle.sect_cert.proofs.writing.put_path.Given as goal

abbrev pub invariant-loop-field : goal.invariant-loop-field
invariant-loop-field l = l.out.items ++ flat_map field_text (drop l.field-index l.field-items) ≡ l.initial.out.items
    ++ flat_map field_text l.field-items
