use Rattle.std.proofs.Common.{◌≡◌, map}
use Rattle.std.specs.List.{range_with_len}
use Rattle.serde_json.specs.View.{view}
use Rattle.sect_json.specs.Inspecting.{thread_node_json}
use Rattle.sect_json.proofs.inspecting.thread_nodes.Given as goal

abbrev pub invariant-loop-node : goal.invariant-loop-node
invariant-loop-node l = map view l.values.items
    ≡ map (thread_node_json l.of.compiled.now l.of.source.now l.of.spans.now l.thread) (range_with_len 0 l.node)
