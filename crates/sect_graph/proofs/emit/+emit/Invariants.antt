use Rattle.std.proofs.Common.{◌≡◌, ◌+◌, ◌*◌, ◌++◌, drop, length}
use Rattle.sect_types.specs.{Statements.{Stop, weight}, Texts.{step_then, statements_of}, Traces.{node_count}}
use Rattle.sect_graph.specs.Layout.{nodes_of}
use Rattle.sect_graph.proofs.emit.+emit.Given as goal

abbrev pub decreases-emit_step : goal.decreases-emit_step
decreases-emit_step l = 2 * weight (step_then l.step.now Stop)

abbrev pub decreases-emit_text : goal.decreases-emit_text
decreases-emit_text l = 2 * weight l.text.now + 1

abbrev pub invariant-emit_text-loop-i : goal.invariant-emit_text-loop-i
invariant-emit_text-loop-i l = record {
  whole : statements_of l.steps ≡ l.text;
  nodes : l.nodes.items ++ nodes_of (statements_of (drop l.i l.steps)) (length l.nodes.items) l.next ≡ l.fn.nodes.items
      ++ nodes_of l.text (length l.fn.nodes.items) l.next;
  size : length l.nodes.items + node_count (statements_of (drop l.i l.steps)) ≡ length l.fn.nodes.items + node_count
      l.text;
}
