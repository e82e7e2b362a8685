use Rattle.std.proofs.Common.{◌≡◌, ◌++◌, length, ap, arith}
use Rattle.std.specs.String.{string_bytes}
use Rattle.sect_lemmas.proofs.Places.{at_of}
use Rattle.sect_emit.specs.Listing.{by_number}
use Rattle.sect_emit.proofs.shared.Numbered.{added_on, all_added}
use Rattle.sect_c.specs.Declarations.{structure_c}
use Rattle.sect_c.proofs.program.put_structures.Goals as goal

pub overflow_cast-of : goal.overflow_cast-of
overflow_cast-of c =
    omega (arith, c.loop-of-test.true, ap length c.records-records.ensures, c.facts.ensures.limits.few_records)

pub put_structure-requires : goal.put_structure-requires
put_structure-requires c = omega (arith, c.loop-of-test.true, ap length c.records-records.ensures)

pub loop-of-preserved : goal.loop-of-preserved
loop-of-preserved c =
    let p = c.args.context.now.program.now in
    let line = structure_c p c.args.context.now.looked.now in
    let of = at_of p.records c.loop-of.of (omega (arith, c.loop-of-test.true, ap length c.records-records.ensures)) in
    added_on line p.records c.loop-of.of of.0 (string_bytes c.loop-of.text) (string_bytes c.put_structure.new.text)
    (string_bytes c.args.text.now ++ by_number line 0 p.records) of.1 (c.in_ok-put_structure.ensures of.0 of.1) c.loop-of.invariant

pub returns : goal.returns
returns c =
    let p = c.args.context.now.program.now in
    let line = structure_c p c.args.context.now.looked.now in
    all_added line p.records c.loop-of.of (string_bytes c.loop-of.text)
    (string_bytes c.args.text.now ++ by_number line 0 p.records)
    (omega (arith, c.loop-of-test.false, c.loop-of.auto.of-end, ap length c.records-records.ensures))
    c.loop-of.invariant
