use Rattle.std.proofs.Common.{◌≡◌, ◌↔◌, ◌≤◌, ◌*◌, ◌+◌}
use Rattle.sect_types.specs.{Statements.{Stop, weight, statement_count}, Texts.{step_then}}
use Rattle.sect_serial.proofs.same.+same.Given as goal

abbrev pub decreases-same_step : goal.decreases-same_step
decreases-same_step l = 2 * weight (step_then l.left.now Stop)

abbrev pub decreases-same_statements : goal.decreases-same_statements
decreases-same_statements l = 2 * weight l.left + 1

abbrev pub invariant-same_statements-loop-ours : goal.invariant-same_statements-loop-ours
invariant-same_statements-loop-ours l = record {
  light : weight l.left ≤ weight l.fn.left;
  alike : (l.left ≡ l.right) ↔ (l.fn.left ≡ l.fn.right);
}

abbrev pub decreases-same_statements-loop-ours : goal.decreases-same_statements-loop-ours
decreases-same_statements-loop-ours l = statement_count l.left
