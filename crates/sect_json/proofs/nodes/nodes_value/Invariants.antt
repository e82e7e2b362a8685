use Rattle.std.proofs.Common.{◌≡◌, map}
use Rattle.std.specs.List.{range_with_len}
use Rattle.serde_json.specs.View.{view}
use Rattle.sect_json.specs.Nodes.{node_json}
use Rattle.sect_json.proofs.nodes.nodes_value.Given as goal

abbrev pub invariant-loop-node : goal.invariant-loop-node
invariant-loop-node l = map view l.values.items ≡ map (node_json l.compiled l.of) (range_with_len 0 l.node)
