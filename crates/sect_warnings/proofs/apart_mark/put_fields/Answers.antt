use Rattle.sect_warnings.proofs.Using.{other_there}
use Rattle.sect_warnings.proofs.apart_mark.put_fields.Goals as goal

pub put_field-requires-in-loop-field : goal.put_field-requires-in-loop-field
put_field-requires-in-loop-field c =
    other_there c.args.program.now c.in-Some.first.now c.args.fields.now c.in-Some.others.now c.in-Some.ensures.cases.0
    c.requires c.loop-field.field-index _ c.loop-field-test.true
