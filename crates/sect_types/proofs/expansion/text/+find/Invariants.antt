use Rattle.std.proofs.Common.{◌+◌, ◌*◌}
use Rattle.sect_types.specs.{Statements.{Stop, weight}, Texts.{step_then}}
use Rattle.sect_types.proofs.FindLemmas.{IsSought}
use Rattle.sect_types.proofs.expansion.text.+find.Given as goal

abbrev pub decreases-Step::section : goal.decreases-Step::section
decreases-Step::section l = 2 * weight (step_then l.self.now Stop)

abbrev pub decreases-Text::section : goal.decreases-Text::section
decreases-Text::section l = 2 * weight l.self.now + 1

abbrev pub invariant-Text::section-loop-step : goal.invariant-Text::section-loop-step
invariant-Text::section-loop-step l = IsSought l.number l.self l.step-items l.step-index
