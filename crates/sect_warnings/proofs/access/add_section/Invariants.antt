use Rattle.std.proofs.Common.{◌≡◌, ◌++◌}
use Rattle.sect_graph.specs.Layout.{flow_nodes}
use Rattle.sect_emit.specs.Explaining.{section_at}
use Rattle.sect_warnings.specs.Lost.{to_node}
use Rattle.sect_warnings.proofs.access.add_section.Given as goal

abbrev pub invariant-loop-node : goal.invariant-loop-node
invariant-loop-node l =
    l.list.items ≡ l.fn.list.items
    ++ to_node l.effect l.section (flow_nodes (section_at l.compiled l.section).body) l.origins l.node
