use Rattle.std.proofs.Common.{◌≡◌, ◌+◌, ◌*◌, ◌++◌, drop}
use Rattle.sect_types.specs.{Statements.{Stop, weight, made_in}, Texts.{step_then, statements_of}}
use Rattle.sect_store.proofs.site.+made.Given as goal

abbrev pub decreases-put_made_by : goal.decreases-put_made_by
decreases-put_made_by l = 2 * weight (step_then l.step.now Stop)

abbrev pub decreases-put_made : goal.decreases-put_made
decreases-put_made l = 2 * weight l.text.now + 1

abbrev pub invariant-put_made-loop-step : goal.invariant-put_made-loop-step
invariant-put_made-loop-step l = record {
  whole : statements_of l.step-items ≡ l.text;
  added : l.all.items ++ made_in (statements_of (drop l.step-index l.step-items)) ≡ l.fn.all.items ++ made_in l.text;
}
