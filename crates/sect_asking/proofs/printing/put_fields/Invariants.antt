use Rattle.std.proofs.Common.{◌≡◌, ◌++◌, drop}
use Rattle.std.specs.String.{string_bytes}
use Rattle.sect_asking.specs.Printing.{fields_text}
use Rattle.sect_asking.proofs.printing.put_fields.Given as goal

abbrev pub invariant-loop-field : goal.invariant-loop-field
invariant-loop-field l = record {
  added : string_bytes l.text ++ fields_text l.program l.of (drop l.field-index l.fields) ≡ string_bytes l.fn.text
      ++ fields_text l.program l.fn.of l.fields;
}
