-- A lock that comes behind locks that it covers is told to them, one after another.
use Rattle.std.proofs.Common.{◌≡◌, ◌↔◌, inl, inr, ℕ, ◌+◌, ◌<◌, ◌≤◌, [], ◌∷◌, ◌++◌, Some, Bool, true, false, length}
use Rattle.std.proofs.{Common.{refl, sym, ap, ◌∙◌, subst, true≢false, arith}, lemmas.Bool.{cases_eq}}
use Rattle.std.proofs.lemmas.Option.{slice_get_within}
use Rattle.std.proofs.lemmas.List.{get_or-set_same, get_or-set_other, length-set}
use Rattle.std.specs.Prelude.{slice_get, slice_index_or, IsTrue, IsFalse}
use Rattle.sect_lemmas.proofs.Places.{one_at}
use Rattle.sect_names.specs.{declared.lock.Lock.{Lock}, Schemes.{SchemeView}, Climbing.{IsAbove}}
use Rattle.sect_infer.specs.Numberings.{NumberingView}
use Rattle.sect_infer.specs.steps.Putting.{IsTold, IsToldOf, IsToldBelow}

-- as many locks as before, the same, and as many lists of those above them
pub record IsAsLong (old new : NumberingView) : Type 0 where
  pub keys : new.keys ≡ old.keys
  pub classes : new.classes ≡ old.classes
  pub count : length new.above ≡ length old.above

pub as_long : (t : NumberingView) → IsAsLong t t
as_long t = record { keys = refl; classes = refl; count = refl }

pub as_long_told : (old mid new : NumberingView) (n m : ℕ) → IsAsLong old mid → IsTold mid new n m → IsAsLong old new
as_long_told old mid new n m is told = record {
  keys = told.keys ∙ is.keys;
  classes = told.classes ∙ is.classes;
  count = ap length told.above ∙ length-set mid.above n (slice_index_or mid.above n [] ++ m ∷ []) ∙ is.count;
}

-- whether the next is told or not
pub as_long_step : (old mid new : NumberingView) (n m : ℕ) (tells : Bool) → IsAsLong old mid
    → (IsTrue tells → IsTold mid new n m) → (IsFalse tells → new ≡ mid) → IsAsLong old new
as_long_step old mid new n m true is told same = as_long_told old mid new n m is (told refl)
as_long_step old mid new n m false is told same = subst (IsAsLong old) (sym (same refl)) is

-- those of the first i locks that it covers have been told
pub record AreToldBefore (s : SchemeView) (old new : NumberingView) (big : Lock) (m i : ℕ) : Type 0 where
  pub done : (n : ℕ) (l : Lock) → n < i → slice_get old.keys n ≡ Some l
      → IsToldOf s big m l (slice_index_or old.above n []) (slice_index_or new.above n [])
  pub left : (n : ℕ) → i ≤ n → slice_index_or new.above n [] ≡ slice_index_or old.above n []

module _ (s : SchemeView) (old : NumberingView) (big : Lock) (m : ℕ) where
  pub told_first : AreToldBefore s old old big m 0
  told_first = record { done = λ n l less at. absurd (omega (arith, less)); left = λ n past. refl }

  -- the next has been told
  pub told_next : (mid new : NumberingView) (i : ℕ) (l : Lock) → length old.above ≡ length old.keys → IsAsLong old mid
      → slice_get old.keys i ≡ Some l → IsAbove s big l → IsTold mid new i m → AreToldBefore s old mid big m i
      → AreToldBefore s old new big m (i + 1)
  told_next mid new i l count long at over told are = record {
    done = λ n k less at_k. elim (cases_eq n i) [
      | inl same ↦
          let one : l ≡ k = one_at old.keys i l k at (ap (slice_get old.keys) (sym same) ∙ at_k) in
          let within = slice_get_within old.keys i l at in
          inl (
            subst (IsAbove s big) one over,
            ap (λ j. slice_index_or new.above j []) same ∙ ap (λ ns. slice_index_or ns i []) told.above
                ∙ get_or-set_same mid.above i (slice_index_or mid.above i [] ++ m ∷ []) []
                (omega (arith, within, count, long.count))
                ∙ ap (λ ns. ns ++ m ∷ []) (are.left i (omega arith))
                ∙ ap (λ j. slice_index_or old.above j [] ++ m ∷ []) (sym same),
          )
      | inr other ↦
          subst (IsToldOf s big m k (slice_index_or old.above n [])) (sym (elsewhere n other))
          (are.done n k (omega (arith, less, other)) at_k)
    ];
    left = λ n past. elsewhere n (λ e. omega (arith, past, e)) ∙ are.left n (omega (arith, past));
  }
    where
      elsewhere : (n : ℕ) → (n ≡ i → ⊥) → slice_index_or new.above n [] ≡ slice_index_or mid.above n []
      elsewhere n other = ap (λ ns. slice_index_or ns n []) told.above
          ∙ get_or-set_other mid.above i n (slice_index_or mid.above i [] ++ m ∷ []) [] other

  -- or isn't to be told
  pub told_skip : (mid : NumberingView) (i : ℕ) (l : Lock) → slice_get old.keys i ≡ Some l → (IsAbove s big l → ⊥)
      → AreToldBefore s old mid big m i → AreToldBefore s old mid big m (i + 1)
  told_skip mid i l at free are = record {
    done = λ n k less at_k. elim (cases_eq n i) [
      | inl same ↦
          let one : l ≡ k = one_at old.keys i l k at (ap (slice_get old.keys) (sym same) ∙ at_k) in
          inr (λ over. free (subst (IsAbove s big) (sym one) over), are.left n (omega (arith, same)))
      | inr other ↦ are.done n k (omega (arith, less, other)) at_k
    ];
    left = λ n past. are.left n (omega (arith, past));
  }

  pub told_step : (mid new : NumberingView) (i : ℕ) (l : Lock) (tells : Bool) → length old.above ≡ length old.keys
      → IsAsLong old mid → slice_get old.keys i ≡ Some l → (IsTrue tells ↔ IsAbove s big l)
      → (IsTrue tells → IsTold mid new i m) → (IsFalse tells → new ≡ mid) → AreToldBefore s old mid big m i
      → AreToldBefore s old new big m (i + 1)
  told_step mid new i l true count long at over told same are =
      told_next mid new i l count long at (over.0 refl) (told refl) are
  told_step mid new i l false count long at over told same are =
      subst (λ t. AreToldBefore s old t big m (i + 1)) (sym (same refl))
      (told_skip mid i l at (λ h. true≢false (sym (over.1 h))) are)

  -- all have been
  pub told_done : (new : NumberingView) (i : ℕ) → length old.keys ≤ i → IsAsLong old new
      → AreToldBefore s old new big m i → IsToldBelow s old new big m
  told_done new i past long are = record {
    keys = long.keys;
    classes = long.classes;
    count = long.count;
    each = λ n l at. (let within = slice_get_within old.keys n l at in are.done n l (omega (arith, within, past)) at);
  }
