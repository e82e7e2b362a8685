use Rattle.sect_graph.proofs.Preceding.{AreBeforeSo}
use Rattle.sect_graph.proofs.predecessors.predecessors_of.Given as goal

abbrev pub invariant-loop-node : goal.invariant-loop-node
invariant-loop-node l = AreBeforeSo l.flow l.node l.lists
