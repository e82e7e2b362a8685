-- A statement weighs no more than the statements that it stands in.
use Rattle.std.proofs.Common.{ℕ, zero, suc, ◌<◌, ◌≤◌, List, [], ◌∷◌, get_or, length, arith}
use Rattle.sect_types.specs.{Statements.{Stop, weight}, Texts.{step_then, statements_of}}
use Rattle.sect_types.specs.declared.expansion.text.Step.{Step}
use Rattle.sect_types.specs.declared.expansion.text.Step.TheVariants as step

pub weight_at : (ss : List Step) (i : ℕ) (d : Step) → i < length ss
    → weight (step_then (get_or ss i d) Stop) ≤ weight (statements_of ss)
weight_at [] i d h = absurd (omega arith)
weight_at (step.Do a ∷ ss) zero d h = omega arith
weight_at (step.If t p q ∷ ss) zero d h = omega arith
weight_at (step.While t p ∷ ss) zero d h = omega arith
weight_at (step.Section i p ∷ ss) zero d h = omega arith
weight_at (step.Do a ∷ ss) (suc i) d h = omega (arith, weight_at ss i d (omega arith))
weight_at (step.If t p q ∷ ss) (suc i) d h = omega (arith, weight_at ss i d (omega arith))
weight_at (step.While t p ∷ ss) (suc i) d h = omega (arith, weight_at ss i d (omega arith))
weight_at (step.Section j p ∷ ss) (suc i) d h = omega (arith, weight_at ss i d (omega arith))
