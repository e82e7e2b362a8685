use Rattle.std.proofs.Common.{arith}
use Rattle.sect_editor.specs.Queries.{edit_json}
use Rattle.sect_editor.proofs.Listing.{values_more, values_all}
use Rattle.sect_editor.proofs.query.edits_value.Goals as goal

pub loop-span-preserved : goal.loop-span-preserved
loop-span-preserved c =
    values_more (edit_json c.args.source.now c.args.name.now) c.args.spans.now
    c.loop-span.span-index _ c.loop-span.values.items c.push.new.self.items c.in_ok-edit_value.field-0
    c.loop-span-test.true c.loop-span.invariant c.in_ok-push.ensures.items c.in_ok-edit_value.ensures

pub returns : goal.returns
returns c =
    values_all (edit_json c.args.source.now c.args.name.now) c.args.spans.now
    c.loop-span.span-index c.loop-span.values (omega arith) c.loop-span.invariant
