use Rattle.std.proofs.Common.{◌≡◌, ◌+◌, ◌*◌, ◌++◌, drop, map}
use Rattle.sect_types.specs.{Statements.{Stop, weight, section_bodies}, Texts.{step_then, statements_of}}
use Rattle.sect_graph.specs.Layout.{flow_nodes}
use Rattle.sect_graph.proofs.graph.+put.Given as goal

abbrev pub decreases-put_step : goal.decreases-put_step
decreases-put_step l = 2 * weight (step_then l.step.now Stop)

abbrev pub decreases-put_text : goal.decreases-put_text
decreases-put_text l = 2 * weight l.text.now + 1

abbrev pub invariant-put_text-loop-step : goal.invariant-put_text-loop-step
invariant-put_text-loop-step l = record {
  whole : statements_of l.step-items ≡ l.text;
  graphs : l.sections.items ++ map flow_nodes (section_bodies (statements_of (drop l.step-index l.step-items)))
      ≡ l.fn.sections.items ++ map flow_nodes (section_bodies l.text);
}
