use Rattle.sect_names.proofs.shared.Named.{base_there, item_there}
use Rattle.sect_names.proofs.printing.put_path.Goals as goal

pub put_variable-requires : goal.put_variable-requires
put_variable-requires c = rw c.base.ensures (base_there c.args.program.now c.args.path.now c.requires)

pub field_name-requires : goal.field_name-requires
field_name-requires c =
    item_there c.args.program.now c.args.path.now _ c.fields-field-items.ensures.fields c.requires _ _
    c.loop-field-test.true
