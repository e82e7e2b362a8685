use Rattle.std.proofs.Common.{◌≡◌, ◌++◌, drop}
use Rattle.sect_graph.specs.Layout.{flow_nodes}
use Rattle.sect_store.specs.Printing.{by_place}
use Rattle.sect_emit.specs.Explaining.{section_at}
use Rattle.sect_draw.specs.Graphs.{node_edges}
use Rattle.sect_draw.proofs.graphing.put_edges.Given as goal

abbrev pub invariant-loop-node : goal.invariant-loop-node
invariant-loop-node l = (let d = l.of in
    let nodes = flow_nodes (section_at d.compiled.now d.section).body in
    record {
      added : l.text.items ++ by_place (node_edges d.section) l.node (drop l.node nodes) ≡ l.fn.text.items
          ++ by_place (node_edges d.section) 0 nodes;
    })
