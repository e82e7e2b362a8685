-- The assignments before the body of a call.
use Rattle.std.proofs.Common.{◌≡◌, ℕ, zero, suc, ◌≤◌, List, [], ◌∷◌, None, length, refl, ap, arith}
use Rattle.std.specs.Prelude.{slice_get}
use Rattle.sect_front.specs.declared.tree.Operand.{Operand}
use Rattle.sect_types.specs.declared.expansion.text.Step.{Step}
use Rattle.sect_types.specs.{Statements.{TextView, Stop, Do, Choose, Loop, Section, joined}, Texts.{step_then}}
use Rattle.sect_types.specs.declared.expansion.text.Step.TheVariants as step

-- one step more, behind a text
pub joined_step : (t : TextView) (st : Step) (k : TextView)
    → joined (joined t (step_then st Stop)) k ≡ joined t (step_then st k)
joined_step Stop (step.Do a) k = refl
joined_step Stop (step.If t p q) k = refl
joined_step Stop (step.While t p) k = refl
joined_step Stop (step.Section i p) k = refl
joined_step (Do a r) st k = ap (Do a) (joined_step r st k)
joined_step (Choose t p q r) st k = ap (Choose t p q) (joined_step r st k)
joined_step (Loop t p r) st k = ap (Loop t p) (joined_step r st k)
joined_step (Section i p r) st k = ap (Section i p) (joined_step r st k)

past : (us : List Operand) (i : ℕ) → slice_get us i ≡ None → length us ≤ i
past [] i e = omega arith
past (u ∷ us) zero e = absurd cc
past (u ∷ us) (suc i) e = omega (arith, past us i e)
