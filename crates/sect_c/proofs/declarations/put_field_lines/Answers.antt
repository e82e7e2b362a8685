use Rattle.std.proofs.{Common.{◌≡◌, ◌≤◌, List, ◌++◌, [], length, ap, ◌∙◌, arith}, lemmas.Option.{get_or_from_slice_get}}
use Rattle.std.proofs.lemmas.List.Elements.{All-get_or}
use Rattle.std.specs.{Prelude.{slice_index_or}, String.{string_bytes}}
use Rattle.sect_lemmas.proofs.Places.{at_of}
use Rattle.sect_types.specs.{Limits.{most_fields}, declared.declarations.types.ValueType.{ValueType}}
use Rattle.sect_types.specs.declared.declarations.types.ValueType.TheVariants.{Int}
use Rattle.sect_emit.specs.Listing.{by_number}
use Rattle.sect_emit.proofs.shared.Numbered.{added_on, all_added}
use Rattle.sect_c.specs.Declarations.{field_line}
use Rattle.sect_c.proofs.Rows.{row_at, field_of}
use Rattle.sect_c.proofs.declarations.put_field_lines.Goals as goal

pub overflow_cast-number : goal.overflow_cast-number
overflow_cast-number c =
    let p = c.args.context.now.program.now in
    let row = row_at c.records-records.result.now p.records c.args.of c.index-records-of.result
    c.as_slice-fields.result.now c.requires c.as_slice-fields.ensures c.index-records-of.is c.records-records.ensures in
    let few = All-get_or (λ (ts : List ValueType). length ts ≤ most_fields) p.records c.args.of [] c.requires
    c.facts.ensures.limits.few_fields in
    omega (arith, c.loop-number-test.true, ap length row, few)

pub put_field_line-requires : goal.put_field_line-requires
put_field_line-requires c =
    let p = c.args.context.now.program.now in
    let row = row_at c.records-records.result.now p.records c.args.of c.index-records-of.result
    c.as_slice-fields.result.now c.requires c.as_slice-fields.ensures c.index-records-of.is c.records-records.ensures in
    field_of p c.args.of c.loop-number.number c.requires (omega (arith, c.loop-number-test.true, ap length row))

pub loop-number-preserved : goal.loop-number-preserved
loop-number-preserved c =
    let p = c.args.context.now.program.now in
    let line = field_line p c.args.context.now.looked.now c.args.of in
    let xs = slice_index_or p.records c.args.of [] in
    let row = row_at c.records-records.result.now p.records c.args.of c.index-records-of.result
    c.as_slice-fields.result.now c.requires c.as_slice-fields.ensures c.index-records-of.is c.records-records.ensures in
    let of = at_of xs c.loop-number.number (omega (arith, c.loop-number-test.true, ap length row)) in
    added_on line xs c.loop-number.number of.0 (string_bytes c.loop-number.text) (string_bytes c.put_field_line.new.text)
    (string_bytes c.args.text.now ++ by_number line 0 xs) of.1
    (c.in_ok-put_field_line.ensures ∙ ap (λ (t : ValueType). string_bytes c.loop-number.text ++ line c.loop-number.number t)
    (get_or_from_slice_get xs c.loop-number.number of.0 Int of.1)) c.loop-number.invariant

pub returns : goal.returns
returns c =
    let p = c.args.context.now.program.now in
    let line = field_line p c.args.context.now.looked.now c.args.of in
    let xs = slice_index_or p.records c.args.of [] in
    let row = row_at c.records-records.result.now p.records c.args.of c.index-records-of.result
    c.as_slice-fields.result.now c.requires c.as_slice-fields.ensures c.index-records-of.is c.records-records.ensures in
    all_added line xs c.loop-number.number (string_bytes c.loop-number.text)
    (string_bytes c.args.text.now ++ by_number line 0 xs)
    (omega (arith, c.loop-number-test.false, c.loop-number.auto.number-end, ap length row)) c.loop-number.invariant
