use Rattle.sect_graph.specs.Layout.{flow_nodes}
use Rattle.sect_emit.specs.Explaining.{section_at}
use Rattle.sect_conflicts.specs.Selecting.{Adds}
use Rattle.sect_warnings.specs.Warnings.{IsDue, to_node}
use Rattle.sect_warnings.proofs.judge.add_nodes.Given as goal

abbrev pub invariant-loop-node : goal.invariant-loop-node
invariant-loop-node l = Adds (IsDue l.compiled)
    (to_node l.section (flow_nodes (section_at l.compiled l.section).body) l.origins l.node) l.initial.found.items
    l.found.items
