-- What is still to run, as its parts change.
use Rattle.std.proofs.Common.{true≢false, ◌≡◌, ℕ, zero, suc, true, false, List, [], ◌∷◌, ◌++◌, length, take}
use Rattle.std.proofs.Common.{Option, Some, None, refl, sym, ap, ◌∙◌, arith, slice_get, slice_set, ◌==◌}
use Rattle.std.proofs.lemmas.Bool.Decides.{Decides-eqb}
use Rattle.std.proofs.lemmas.Bool.{false_from_ne_true}
use Rattle.sect_types.specs.Statements.{TextView, Stop, Do, Choose, Loop, Section, joined}
use Rattle.sect_types.specs.{Texts.{step_then, statements_of}, declared.expansion.text.Step.{Step}}
use Rattle.sect_serial.specs.steps.Rests.{rest_of, is_stop, AreFull, after_first, Begins}
use Rattle.sect_types.proofs.shared.Joining.{joined_stop, joined_again}
use Rattle.sect_types.specs.declared.expansion.text.Step.TheVariants as step

-- a step comes first in what it begins
pub joined_step : (s : Step) (k r : TextView) → joined (step_then s k) r ≡ step_then s (joined k r)
joined_step (step.Do a) k r = refl
joined_step (step.If t p q) k r = refl
joined_step (step.While t p) k r = refl
joined_step (step.Section i p) k r = refl

-- the first statement is that of the part before, unless it is empty
pub after_joined : (k r : TextView) → is_stop k ≡ false → after_first (joined k r) ≡ joined (after_first k) r
after_joined Stop r e = absurd (true≢false e)
after_joined (Do a k) r e = refl
after_joined (Choose t p q k) r e = refl
after_joined (Loop t p k) r e = refl
after_joined (Section i p k) r e = refl

-- so both begin with the same
pub begins_joined : (o : Option Step) (k r : TextView) → is_stop k ≡ false → Begins o k → Begins o (joined k r)
begins_joined None k r e h = absurd (true≢false (sym (ap is_stop h) ∙ e))
begins_joined (Some s) k r e h =
    ap (λ k. joined k r) h ∙ joined_step s (after_first k) r ∙ ap (step_then s) (sym (after_joined k r e))

-- a successor is not 0
not_zero : (n : ℕ) → (suc n == 0) ≡ false
not_zero n = false_from_ne_true (suc n == 0) (λ e. absurd (omega (arith, (Decides-eqb (suc n) 0).0 e)))

-- no step means no statement
pub is_stop-text : (ss : List Step) → (length ss == 0) ≡ is_stop (statements_of ss)
is_stop-text [] = refl
is_stop-text (step.Do a ∷ ss) = not_zero (length ss)
is_stop-text (step.If t p q ∷ ss) = not_zero (length ss)
is_stop-text (step.While t p ∷ ss) = not_zero (length ss)
is_stop-text (step.Section i p ∷ ss) = not_zero (length ss)

-- what has no statement is `Stop`
pub stopped : (k : TextView) → is_stop k ≡ true → k ≡ Stop
stopped Stop e = refl
stopped (Do a k) e = absurd (true≢false (sym e))
stopped (Choose t p q k) e = absurd (true≢false (sym e))
stopped (Loop t p k) e = absurd (true≢false (sym e))
stopped (Section i p k) e = absurd (true≢false (sym e))

-- the last part, and what comes after it
pub rest_last : (ks : List TextView) (n : ℕ) (k : TextView) → length ks ≡ suc n → slice_get ks n ≡ Some k
    → rest_of ks ≡ joined k (rest_of (take n ks))
rest_last [] n k e g = absurd (omega (arith, e))
rest_last (x ∷ []) zero k e g = let q : x ≡ k = cc in q ∙ sym (joined_stop k)
rest_last (x ∷ y ∷ xs) zero k e g = absurd (omega (arith, e))
rest_last (x ∷ xs) (suc n) k e g =
    ap (λ r. joined r x) (rest_last xs n k (omega (arith, e)) g) ∙ joined_again k (rest_of (take n xs)) x

-- the last part is replaced
pub rest_set : (ks : List TextView) (n : ℕ) (k : TextView) → length ks ≡ suc n
    → rest_of (slice_set ks n k) ≡ joined k (rest_of (take n ks))
rest_set [] n k e = absurd (omega (arith, e))
rest_set (x ∷ []) zero k e = sym (joined_stop k)
rest_set (x ∷ y ∷ xs) zero k e = absurd (omega (arith, e))
rest_set (x ∷ xs) (suc n) k e =
    ap (λ r. joined r x) (rest_set xs n k (omega (arith, e))) ∙ joined_again k (rest_of (take n xs)) x

-- one part more is run first
pub rest_push : (ks : List TextView) (k : TextView) → rest_of (ks ++ k ∷ []) ≡ joined k (rest_of ks)
rest_push [] k = sym (joined_stop k)
rest_push (x ∷ ks) k = ap (λ r. joined r x) (rest_push ks k) ∙ joined_again k (rest_of ks) x

-- the last part is not empty
pub full_last : (ks : List TextView) (n : ℕ) (k : TextView) → AreFull ks → slice_get ks n ≡ Some k → is_stop k ≡ false
full_last [] n k f g = absurd (cc)
full_last (x ∷ ks) zero k f g = let q : x ≡ k = cc in ap is_stop (sym q) ∙ f.0
full_last (x ∷ ks) (suc n) k f g = full_last ks n k f.1 g

-- nor are those before it
pub full_take : (ks : List TextView) (n : ℕ) → AreFull ks → AreFull (take n ks)
full_take [] zero f = tt
full_take [] (suc n) f = tt
full_take (x ∷ ks) zero f = tt
full_take (x ∷ ks) (suc n) f = (f.0, full_take ks n f.1)

-- nor are they all, where a part is replaced by one that is not empty
pub full_set : (ks : List TextView) (n : ℕ) (k : TextView) → is_stop k ≡ false → AreFull ks → AreFull (slice_set ks n k)
full_set [] n k e f = tt
full_set (x ∷ ks) zero k e f = (e, f.1)
full_set (x ∷ ks) (suc n) k e f = (f.0, full_set ks n k e f.1)

-- nor where one more is not empty
pub full_push : (ks : List TextView) (k : TextView) → is_stop k ≡ false → AreFull ks → AreFull (ks ++ k ∷ [])
full_push [] k e f = (e, tt)
full_push (x ∷ ks) k e f = (f.0, full_push ks k e f.1)
