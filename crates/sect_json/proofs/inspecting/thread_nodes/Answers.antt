use Rattle.std.proofs.Common.{◌+◌, length, ap, ◌∙◌, arith}
use Rattle.sect_emit.specs.Graphed.{graphed_nodes}
use Rattle.sect_json.specs.Inspecting.{thread_node_json}
use Rattle.sect_json.proofs.Rows.{range_more, range_all}
use Rattle.sect_emit.specs.declared.graphs.GraphOf.TheVariants as graphed
use Rattle.sect_json.proofs.inspecting.thread_nodes.Goals as goal

pub loop-node-preserved : goal.loop-node-preserved
loop-node-preserved c =
    let of = c.args.of.now in
    range_more (thread_node_json of.compiled.now of.source.now of.spans.now c.args.thread) c.loop-node.node
    c.loop-node.values.items c.push.new.self.items c.in_ok-thread_node.field-0 c.loop-node.invariant
    c.in_ok-push.ensures.items c.in_ok-thread_node.ensures

pub returns : goal.returns
returns c =
    let of = c.args.of.now in
    let u = c.args.thread in
    let many = c.exit-node-end.ensures.number ∙ ap length c.graphed_flow.ensures in
    range_all (thread_node_json of.compiled.now of.source.now of.spans.now u) c.loop-node.node
    (length (graphed_nodes of.compiled.now (graphed.Thread u)) + 1) c.loop-node.values
    (omega (arith, c.loop-node-test.false, c.loop-node.auto.node-end, many)) c.loop-node.invariant
