use Rattle.std.proofs.Common.{◌≡◌, ◌++◌, drop, []}
use Rattle.std.specs.Prelude.{slice_index_or}
use Rattle.std.specs.String.{string_bytes}
use Rattle.sect_emit.specs.Listing.{by_number}
use Rattle.sect_c.specs.Declarations.{field_line}
use Rattle.sect_c.proofs.declarations.put_field_lines.Given as goal

abbrev pub invariant-loop-number : goal.invariant-loop-number
invariant-loop-number l = (let line = field_line l.context.program.now l.context.looked.now l.fn.of in string_bytes l.text
    ++ by_number line l.number (drop l.number (slice_index_or l.context.program.now.records l.fn.of [])) ≡ string_bytes l.fn.text ++ by_number line 0 (slice_index_or l.context.program.now.records l.fn.of []))
