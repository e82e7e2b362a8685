use Rattle.std.proofs.Common.{◌≡◌, ◌++◌, drop}
use Rattle.std.specs.String.{string_bytes}
use Rattle.sect_types.specs.Sight.{names_of_declared}
use Rattle.sect_store.specs.Printing.{by_place, field_text}
use Rattle.sect_store.proofs.printing.put_fields.Given as goal

abbrev pub invariant-loop-number : goal.invariant-loop-number
invariant-loop-number l = record {
  added : string_bytes l.text ++ by_place (field_text l.program (names_of_declared l.fields)) l.number
      (drop l.number l.datum-items) ≡ string_bytes l.fn.text
      ++ by_place (field_text l.program (names_of_declared l.fields)) 0 l.datum-items;
}
