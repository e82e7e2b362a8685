use Rattle.sect_names.proofs.shared.Named.{base_there, item_there}
use Rattle.sect_emit.proofs.words.path_of.Goals as goal

pub field_name-name-requires : goal.field_name-name-requires
field_name-name-requires c =
    item_there c.args.program.now c.args.path.now _ c.fields-field-items.ensures.fields c.requires _ _
    c.loop-field-test.true

pub base_of-requires : goal.base_of-requires
base_of-requires c = rw c.base.ensures (base_there c.args.program.now c.args.path.now c.requires)
