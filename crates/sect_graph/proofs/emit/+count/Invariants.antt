use Rattle.std.proofs.Common.{◌≡◌, ◌+◌, ◌*◌, drop}
use Rattle.sect_types.specs.{Statements.{Stop, weight}, Texts.{step_then, statements_of}, Traces.{node_count}}
use Rattle.sect_graph.proofs.emit.+count.Given as goal

abbrev pub decreases-step_count : goal.decreases-step_count
decreases-step_count l = 2 * weight (step_then l.step.now Stop)

abbrev pub decreases-text_count : goal.decreases-text_count
decreases-text_count l = 2 * weight l.text.now + 1

abbrev pub invariant-text_count-loop-step : goal.invariant-text_count-loop-step
invariant-text_count-loop-step l = record {
  whole : statements_of l.step-items ≡ l.text;
  count : l.count + node_count (statements_of (drop l.step-index l.step-items)) ≡ node_count l.text;
}
