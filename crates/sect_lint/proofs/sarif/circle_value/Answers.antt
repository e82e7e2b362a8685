use Rattle.std.proofs.Common.{refl, arith}
use Rattle.sect_places.specs.Spans.{no_span}
use Rattle.sect_lint.specs.Sarif.{related_call}
use Rattle.sect_lint.proofs.Telling.{told_more, told_all}
use Rattle.sect_lint.proofs.sarif.circle_value.Goals as goal

pub loop-called-preserved : goal.loop-called-preserved
loop-called-preserved c =
    told_more (related_call c.args.uri.now c.args.source.now) c.args.calls.now c.loop-called.called-index no_span _
    c.loop-called.values.items c.push.new.self.items c.in_ok-call_value.field-0 c.loop-called-test.true refl
    c.loop-called.invariant c.in_ok-push.ensures.items c.in_ok-call_value.ensures

pub returns : goal.returns
returns c =
    told_all (related_call c.args.uri.now c.args.source.now) c.args.calls.now c.loop-called.called-index
    c.loop-called.values (omega arith) c.loop-called.invariant
