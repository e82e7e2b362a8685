use Rattle.std.proofs.Common.{◌∙◌, sym, slice_get}
use Rattle.sect_lint.specs.Idle.{node_touches}
use Rattle.sect_lint.proofs.Touching.{none_yet, found_at, node_at, touched_by}
use Rattle.sect_lint.proofs.idle.is_touched_in.Goals as goal

pub returns-then-touches : goal.returns-then-touches
returns-then-touches c =
    let flow = c.args.flow.now in
    let at = node_at (slice_get flow c.loop-node.node) c.action.result c.action.ensures in
    sym (found_at (node_touches c.args.of) flow c.loop-node.node at.0 at.1
    (touched_by c.args.of at.0 c.action.result at.2 ∙ sym c.touches.ensures ∙ c.if-touches.true))

pub loop-node-preserved : goal.loop-node-preserved
loop-node-preserved c =
    let flow = c.args.flow.now in
    let at = node_at (slice_get flow c.loop-node.node) c.action.result c.action.ensures in
    none_yet (node_touches c.args.of) flow c.loop-node.node at.0 at.1 c.loop-node.invariant
    (touched_by c.args.of at.0 c.action.result at.2 ∙ sym c.touches.ensures ∙ c.if-touches.false)
