use Rattle.std.proofs.Common.{◌≡◌, false, take}
use Rattle.std.specs.List.{list_any}
use Rattle.sect_graph.specs.{declared.flow.Node.{Node}, Layout.{flow_nodes}}
use Rattle.sect_emit.specs.Explaining.{section_at}
use Rattle.sect_warnings.specs.Warnings.{is_print}
use Rattle.sect_warnings.proofs.judge.prints.Given as goal

abbrev pub invariant-loop-node : goal.invariant-loop-node
invariant-loop-node l =
    list_any (λ (n : Node). is_print n.label) (take l.node (flow_nodes (section_at l.compiled l.section).body)) ≡ false
