use Rattle.std.proofs.Common.{◌≡◌, ap, refl, length, arith}
use Rattle.sect_types.specs.Traces.{node_count}
use Rattle.sect_graph.specs.Layout.{flow_nodes}
use Rattle.sect_graph.proofs.{Paths.{length-nodes_of}, Graphs.{is_graph}}
use Rattle.sect_graph.proofs.flow.flow_of.Goals as goal

pub invariant_of-result : goal.invariant_of-result
invariant_of-result c =
    let is : c.emit_text.new.nodes.items ≡ flow_nodes c.args.text.now =
    rw (c.in_ok-emit_text.ensures, c.in_ok-nodes.ensures.items, c.text_count-count.ensures) refl in
    omega (arith, ap length is, length-nodes_of c.args.text.now 0 (node_count c.args.text.now), c.requires)

pub returns-clause-graph : goal.returns-clause-graph
returns-clause-graph c =
    let is : c.emit_text.new.nodes.items ≡ flow_nodes c.args.text.now =
    rw (c.in_ok-emit_text.ensures, c.in_ok-nodes.ensures.items, c.text_count-count.ensures) refl in
    is_graph c.args.text.now c.emit_text.new.nodes.items is

pub returns-clause-nodes : goal.returns-clause-nodes
returns-clause-nodes c = rw (c.in_ok-emit_text.ensures, c.in_ok-nodes.ensures.items, c.text_count-count.ensures) refl
