-- Texts compared statement by statement.
use Rattle.std.proofs.Common.{true≢false, ◌≡◌, ◌<◌, ◌≤◌, refl, sym, ap, ◌∙◌, arith, ℕ, suc, true, List, [], ◌∷◌, length}
use Rattle.std.proofs.{Common.{◌-◌, take, drop, Some, slice_get, slice_index_or}, lemmas.List.{take_all}}
use Rattle.sect_types.specs.Statements.{TextView, Stop, Do, Choose, Loop, Section, joined, weight, statement_count}
use Rattle.sect_types.specs.{Texts.{step_then, statements_of}, declared.expansion.text.Step.{Step}}
use Rattle.sect_serial.specs.steps.Rests.{is_stop, after_first, rest_of, AreFull}
use Rattle.sect_serial.proofs.RestLemmas.{joined_step, rest_last, full_last}
use Rattle.sect_types.specs.declared.expansion.text.Step.TheVariants as step

-- the first statement alone
abbrev first_alone : TextView → TextView
first_alone Stop = Stop
first_alone (Do a k) = Do a Stop
first_alone (Choose t p q k) = Choose t p q Stop
first_alone (Loop t p k) = Loop t p Stop
first_alone (Section i p k) = Section i p Stop

alone : (s : Step) (k : TextView) → first_alone (step_then s k) ≡ step_then s Stop
alone (step.Do a) k = refl
alone (step.If t p q) k = refl
alone (step.While t p) k = refl
alone (step.Section i p) k = refl

pub after : (s : Step) (k : TextView) → after_first (step_then s k) ≡ k
after (step.Do a) k = refl
after (step.If t p q) k = refl
after (step.While t p) k = refl
after (step.Section i p) k = refl

-- what begins with a statement isn't empty
pub not_stop : (s : Step) (k : TextView) → step_then s k ≡ Stop → ⊥
not_stop (step.Do a) k e = true≢false (sym (ap is_stop e))
not_stop (step.If t p q) k e = true≢false (sym (ap is_stop e))
not_stop (step.While t p) k e = true≢false (sym (ap is_stop e))
not_stop (step.Section i p) k e = true≢false (sym (ap is_stop e))

-- texts are the same where their first statements are, and what follows
pub same_firsts : (s r : Step) (k l : TextView) → step_then s k ≡ step_then r l → step_then s Stop ≡ step_then r Stop
same_firsts s r k l e = sym (alone s k) ∙ ap first_alone e ∙ alone r l

pub same_rests : (s r : Step) (k l : TextView) → step_then s k ≡ step_then r l → k ≡ l
same_rests s r k l e = sym (after s k) ∙ ap after_first e ∙ after r l

pub same_together : (s r : Step) (k l : TextView) → step_then s Stop ≡ step_then r Stop → k ≡ l
    → step_then s k ≡ step_then r l
same_together s r k l e f =
    sym (joined_step s Stop k) ∙ ap (λ x. joined x k) e ∙ joined_step r Stop k ∙ ap (step_then r) f

-- the first statement has no more blocks than the text
pub first_lighter : (s : Step) (k : TextView) → weight (step_then s Stop) ≤ weight (step_then s k)
first_lighter (step.Do a) k = omega arith
first_lighter (step.If t p q) k = omega arith
first_lighter (step.While t p) k = omega arith
first_lighter (step.Section i p) k = omega arith

-- nor has what follows
pub rest_lighter : (s : Step) (k : TextView) → weight k ≤ weight (step_then s k)
rest_lighter (step.Do a) k = omega arith
rest_lighter (step.If t p q) k = omega arith
rest_lighter (step.While t p) k = omega arith
rest_lighter (step.Section i p) k = omega arith

-- what follows has fewer statements
pub rest_shorter : (s : Step) (k : TextView) → statement_count k < statement_count (step_then s k)
rest_shorter (step.Do a) k = omega arith
rest_shorter (step.If t p q) k = omega arith
rest_shorter (step.While t p) k = omega arith
rest_shorter (step.Section i p) k = omega arith

-- no steps are no statements
no_steps : (ss : List Step) → length ss ≡ 0 → is_stop (statements_of ss) ≡ true
no_steps [] e = refl
no_steps (s ∷ ss) e = absurd (omega (arith, e))

-- a part that isn't empty has steps
pub has_steps : (ks : List TextView) (n : ℕ) (ss : List Step) → AreFull ks → slice_get ks n ≡ Some (statements_of ss)
    → length ss ≡ 0 → ⊥
has_steps ks n ss full at e = true≢false (sym (no_steps ss e) ∙ full_last ks n (statements_of ss) full at)

-- where a block is at its end, the last part comes next
pub part_next : (ss : List Step) (ks : List TextView) (n : ℕ) (k : TextView) → length ss ≡ 0 → length ks ≡ suc n
    → slice_get ks n ≡ Some k → joined (statements_of ss) (rest_of ks) ≡ joined k (rest_of (take n ks))
part_next [] ks n k e long at = rest_last ks n k long at
part_next (s ∷ ss) ks n k e long at = absurd (omega (arith, e))

-- the first step, and the others
pub headed : (ss : List Step) (s : Step) → 1 ≤ length ss → s ≡ slice_index_or ss 0 s
    → ss ≡ s ∷ take (length ss - 1) (drop 1 ss)
headed [] s le e = absurd (omega (arith, le))
headed (r ∷ ss) s le e = let all = take_all (length (r ∷ ss) - 1) ss (omega arith) in λ i. sym e i ∷ sym all i
