use Rattle.std.proofs.Common.{◌≡◌, ◌++◌, drop, map}
use Rattle.sect_graph.specs.Layout.{flow_nodes}
use Rattle.sect_graph.proofs.Graphs.{all_bodies}
use Rattle.sect_graph.proofs.graph.graph_of.Given as goal

abbrev pub invariant-loop-thread : goal.invariant-loop-thread
invariant-loop-thread l = record {
  threads : l.threads.items ++ map flow_nodes (drop l.thread l.program.texts) ≡ map flow_nodes l.program.texts;
  sections : l.sections.items ++ map flow_nodes (all_bodies (drop l.thread l.program.texts)) ≡ map flow_nodes
      (all_bodies l.program.texts);
}
