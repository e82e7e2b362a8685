use Rattle.std.proofs.Common.{◌++◌, ◌<◌, length, ap, ◌∙◌, sym, arith, slice_get}
use Rattle.sect_graph.specs.{Layout.{flow_nodes}, declared.flow.Node.{Node}}
use Rattle.sect_lemmas.proofs.Places.{told_of}
use Rattle.sect_emit.specs.Explaining.{section_at}
use Rattle.sect_draw.specs.Graphs.{node_edges, edges_text}
use Rattle.sect_draw.proofs.Pieces.{piece_more}
use Rattle.sect_draw.proofs.graphing.put_edges.Goals as goal

pub loop-node-preserved : goal.loop-node-preserved
loop-node-preserved c =
    let d = c.args.of.now in
    let nodes = flow_nodes (section_at d.compiled.now d.section).body in
    let n = c.loop-node.node in
    let as_many = ap length c.section_flow-flow.ensures in
    let within : n < length nodes = omega (arith, c.loop-node-test.true, c.exit-node-end.ensures.number, as_many) in
    record {
      added = piece_more (node_edges d.section) nodes n c.loop-node.text.items c.put_successors.new.text.items _ within
          (λ x at. c.in_ok-put_successors.ensures
          ∙ ap (λ s. c.loop-node.text.items ++ edges_text d.section n s)
          (sym (told_of (λ (y : Node). y.next) c.section_flow-flow.result.now n c.succ.result c.succ.ensures x
          (ap (λ g. slice_get g n) c.section_flow-flow.ensures ∙ at)))) c.loop-node.invariant.added;
    }
