-- A text that stands in another is smaller.
use Rattle.std.specs.Prelude.{◌≤◌, List, [], ◌∷◌}
use Rattle.std.proofs.Common.{arith}
use denote.Param.Weighed.{most}
use Rattle.sect_types.specs.{Statements.{weight}, Texts.{statements_of}, declared.expansion.text.Step.{Step}}
use Rattle.sect_types.specs.declared.expansion.text.Text.TheDeep.{deep-Step}
use Rattle.sect_types.specs.declared.expansion.text.Step.TheVariants as step

pub falls : (ss : List Step) → most deep-Step ss ≤ weight (statements_of ss)
falls [] = omega arith
falls (step.Do a ∷ ss) = omega (arith, falls ss)
falls (step.If t p q ∷ ss) = omega (arith, falls ss)
falls (step.While t p ∷ ss) = omega (arith, falls ss)
falls (step.Section i p ∷ ss) = omega (arith, falls ss)
