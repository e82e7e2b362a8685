use Rattle.std.proofs.Common.{◌≡◌}
use Rattle.sect_graph.specs.Layout.{flow_nodes}
use Rattle.sect_emit.specs.Explaining.{section_at}
use Rattle.sect_warnings.specs.Fields.{fields_to, stored, used}
use Rattle.sect_warnings.proofs.fields.usage_of.Given as goal

abbrev pub invariant-loop-node : goal.invariant-loop-node
invariant-loop-node l =
    (l.stores.items ≡ fields_to stored (flow_nodes (section_at l.compiled l.section).body) l.node)
    × (l.uses.items ≡ fields_to used (flow_nodes (section_at l.compiled l.section).body) l.node)
