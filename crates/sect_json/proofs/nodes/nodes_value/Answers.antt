use Rattle.std.proofs.Common.{◌+◌, length, ap, ◌∙◌, arith}
use Rattle.sect_emit.specs.Graphed.{graphed_nodes}
use Rattle.sect_json.specs.Nodes.{node_json}
use Rattle.sect_json.proofs.Rows.{range_more, range_all}
use Rattle.sect_json.proofs.nodes.nodes_value.Goals as goal

pub loop-node-preserved : goal.loop-node-preserved
loop-node-preserved c =
    range_more (node_json c.args.compiled.now c.args.of) c.loop-node.node c.loop-node.values.items c.push.new.self.items
    c.in_ok-node_value.field-0 c.loop-node.invariant c.in_ok-push.ensures.items c.in_ok-node_value.ensures

pub returns : goal.returns
returns c =
    let v = c.args.compiled.now in
    let of = c.args.of in
    let many = c.exit-node-end.ensures.number ∙ ap length c.graphed_flow.ensures in
    range_all (node_json v of) c.loop-node.node (length (graphed_nodes v of) + 1) c.loop-node.values
    (omega (arith, c.loop-node-test.false, c.loop-node.auto.node-end, many)) c.loop-node.invariant
