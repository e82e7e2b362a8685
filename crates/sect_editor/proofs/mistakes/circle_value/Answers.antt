use Rattle.std.proofs.Common.{arith}
use Rattle.sect_editor.specs.Mistaken.{related_call}
use Rattle.sect_editor.proofs.Listing.{values_more, values_all}
use Rattle.sect_editor.proofs.mistakes.circle_value.Goals as goal

pub loop-called-preserved : goal.loop-called-preserved
loop-called-preserved c =
    values_more (related_call c.args.uri.now c.args.source.now) c.args.calls.now
    c.loop-called.called-index _ c.loop-called.values.items c.push.new.self.items c.in_ok-call_value.field-0
    c.loop-called-test.true c.loop-called.invariant c.in_ok-push.ensures.items c.in_ok-call_value.ensures

pub returns : goal.returns
returns c =
    values_all (related_call c.args.uri.now c.args.source.now) c.args.calls.now
    c.loop-called.called-index c.loop-called.values (omega arith) c.loop-called.invariant
