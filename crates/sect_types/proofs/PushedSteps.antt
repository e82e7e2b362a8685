-- One step more behind the statements of a text.
use Rattle.std.proofs.Common.{◌≡◌, List, [], ◌∷◌, ◌++◌, refl, ap}
use Rattle.sect_types.specs.{Statements.{Stop, Do, Choose, Loop, Section, joined}, Texts.{step_then, statements_of}}
use Rattle.sect_types.specs.declared.expansion.text.Step.{Step}
use Rattle.sect_types.specs.declared.expansion.text.Step.TheVariants as step

pub statements_of_push : (ss : List Step) (s : Step)
    → statements_of (ss ++ s ∷ []) ≡ joined (statements_of ss) (step_then s Stop)
statements_of_push [] s = refl
statements_of_push (step.Do a ∷ ss) s = ap (Do a) (statements_of_push ss s)
statements_of_push (step.If t p q ∷ ss) s = ap (Choose t p q) (statements_of_push ss s)
statements_of_push (step.While t p ∷ ss) s = ap (Loop t p) (statements_of_push ss s)
statements_of_push (step.Section i p ∷ ss) s = ap (Section i p) (statements_of_push ss s)
