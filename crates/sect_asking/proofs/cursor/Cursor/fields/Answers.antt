use Rattle.sect_asking.proofs.Listing.{fields_grow}
use Rattle.sect_asking.proofs.cursor.Cursor.fields.Goals as goal

pub loop-fields-preserved : goal.loop-fields-preserved
loop-fields-preserved c = record {
  reads = fields_grow c.loop-fields.fields.items c.push.new.self.items c.in_ok-field.field _ _ _ _
      c.in_ok-push.ensures.items c.loop-fields.invariant.reads
      (c.in_ok-takes_operator.ensures.taken c.if-branch.true) c.in_ok-field.ensures;
}
