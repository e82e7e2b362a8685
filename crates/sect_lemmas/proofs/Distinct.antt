-- Lists without repetition can't be longer than what they are taken from.
use Rattle.std.proofs.Common.{◌≡◌, ◌<◌, ◌⊎◌, inl, inr, refl, sym, ap, ◌∙◌, arith, ℕ, zero, suc, Bool, true, false, List}
use Rattle.std.proofs.Common.{[], ◌∷◌, ◌++◌, length, Option, Some, None, slice_get, cond, subst, true≢false}
use Rattle.std.proofs.lemmas.Option.{slice_get_within}
use Rattle.std.specs.{Prelude.{nat_eq}, Cmp.{unsigned_Decides}}
use Rattle.sect_lemmas.specs.{Lists.{Has}, Distinct.{AreDistinct}}
use Rattle.sect_lemmas.proofs.{Membership.{Has-slice_get}, Options.{some_injective}}
use Rattle.sect_lemmas.proofs.Places.{Has-index, at_of, chosen, pushed_at}

-- the number, but another one for n
moved : ℕ → ℕ → ℕ → ℕ
moved n other k = cond (nat_eq k n) other k

-- which of both it is
moved_is : (n other k : ℕ) → ((k ≡ n) × (moved n other k ≡ other)) ⊎ ((k ≡ n → ⊥) × (moved n other k ≡ k))
unfolding moved
moved_is n other k = by (nat_eq k n) refl where
  by : (b : Bool) → nat_eq k n ≡ b → ((k ≡ n) × (cond b other k ≡ other)) ⊎ ((k ≡ n → ⊥) × (cond b other k ≡ k))
  by true e = inl ((unsigned_Decides k n).0 e, refl)
  by false e = inr (λ same. true≢false (sym ((unsigned_Decides k n).1 same) ∙ e), refl)

-- n + 1 numbers below n aren't all different: the pigeonhole principle, by putting the last one in the place of the
-- greatest
pigeons : (n : ℕ) (f : ℕ → ℕ) → ((i : ℕ) → i < suc n → f i < n)
    → ((i j : ℕ) → i < suc n → j < suc n → f i ≡ f j → i ≡ j) → ⊥
pigeons zero f below one = let lt = below 0 (omega arith) in omega (arith, lt)
pigeons (suc n) f below one = pigeons n (λ i. moved n (f (suc n)) (f i)) fewer again where
  apart : (i : ℕ) → i < suc n → f i ≡ f (suc n) → ⊥
  apart i lt e = let same = one i (suc n) (omega (arith, lt)) (omega arith) e in omega (arith, lt, same)

  -- what is below n + 1 and isn't n is below n
  less : (k x : ℕ) → k < suc n → (k ≡ n → ⊥) → x ≡ k → x < n
  less k x lt other e = by (nat_eq k n) refl where
    by : (b : Bool) → nat_eq k n ≡ b → x < n
    by true same = absurd (other ((unsigned_Decides k n).0 same))
    by false differs = omega (arith, lt, e, (λ (same : k ≡ n). other same))

  fewer : (i : ℕ) → i < suc n → moved n (f (suc n)) (f i) < n
  fewer i lt = elim (moved_is n (f (suc n)) (f i)) [
    | inl greatest ↦ less (f (suc n)) _ (below (suc n) (omega arith)) (λ e. apart i lt (greatest.0 ∙ sym e)) greatest.1
    | inr kept ↦ less (f i) _ (below i (omega (arith, lt))) kept.0 kept.1
  ]

  again : (i j : ℕ) → i < suc n → j < suc n → moved n (f (suc n)) (f i) ≡ moved n (f (suc n)) (f j) → i ≡ j
  again i j here there e = by (moved_is n (f (suc n)) (f i)) (moved_is n (f (suc n)) (f j)) where
    by : ((f i ≡ n) × (moved n (f (suc n)) (f i) ≡ f (suc n))) ⊎ ((f i ≡ n → ⊥) × (moved n (f (suc n)) (f i) ≡ f i))
        → ((f j ≡ n) × (moved n (f (suc n)) (f j) ≡ f (suc n))) ⊎ ((f j ≡ n → ⊥) × (moved n (f (suc n)) (f j) ≡ f j))
        → i ≡ j
    by (inl a) (inl b) = one i j (omega (arith, here)) (omega (arith, there)) (a.0 ∙ sym b.0)
    by (inl a) (inr b) = absurd (apart j there (sym b.1 ∙ sym e ∙ a.1))
    by (inr a) (inl b) = absurd (apart i here (sym a.1 ∙ e ∙ b.1))
    by (inr a) (inr b) = one i j (omega (arith, here)) (omega (arith, there)) (sym a.1 ∙ e ∙ b.1)

-- the number that is there
there_or_zero : Option ℕ → ℕ
there_or_zero None = 0
there_or_zero (Some k) = k

-- a list without repetition isn't longer than one that has all its elements
pub no_longer : {X : Type 0} (xs ys : List X) → AreDistinct xs → ((x : X) → Has xs x → Has ys x)
    → length ys < length xs → ⊥
unfolding there_or_zero
no_longer {X} xs ys distinct all more = pigeons (length ys) place below one where
  -- what stands at place i of the first stands at place k of the second
  Stands : ℕ → ℕ → Type 0
  Stands i k = (x : X) × (slice_get xs i ≡ Some x) × (slice_get ys k ≡ Some x)

  places : (ks : List ℕ) × (length ks ≡ suc (length ys))
      × ((i k : ℕ) → slice_get ks i ≡ Some k → Stands i k)
  places = chosen Stands (suc (length ys)) (λ i lt.
      let x = at_of xs i (omega (arith, lt, more)) in
      let k = Has-index ys x.0 (all x.0 (Has-slice_get xs i x.0 x.1)) in
      (k.0, (x.0, x.1, k.1)))

  place : ℕ → ℕ
  place i = there_or_zero (slice_get places.0 i)

  stands : (i : ℕ) → i < suc (length ys) → Stands i (place i)
  stands i lt =
      let k = at_of places.0 i (let long = places.1 in omega (arith, lt, long)) in
      subst (Stands i) (sym (ap there_or_zero k.1)) (places.2 i k.0 k.1)

  below : (i : ℕ) → i < suc (length ys) → place i < length ys
  below i lt = slice_get_within ys (place i) (stands i lt).0 (stands i lt).2

  one : (i j : ℕ) → i < suc (length ys) → j < suc (length ys) → place i ≡ place j → i ≡ j
  one i j here there e =
      let a = stands i here in
      let b = stands j there in
      let same : a.0 ≡ b.0 = some_injective a.0 b.0 (sym a.2 ∙ ap (slice_get ys) e ∙ b.2) in
      distinct i j b.0 (a.1 ∙ ap (λ x. Some x) same) b.1

-- no element stands in an empty list twice
pub distinct_none : {X : Type 0} → AreDistinct {X = X} []
distinct_none i j x a b = absurd (let lt = slice_get_within [] i x a in omega (arith, lt))

-- one element more, which isn't there
pub distinct_push : {X : Type 0} (xs : List X) (y : X) → AreDistinct xs → (Has xs y → ⊥) → AreDistinct (xs ++ y ∷ [])
distinct_push {X} xs y distinct new i j x a b = by (pushed_at xs y x i a) (pushed_at xs y x j b) where
  by : ((i ≡ length xs) × (y ≡ x)) ⊎ (slice_get xs i ≡ Some x) → ((j ≡ length xs) × (y ≡ x)) ⊎ (slice_get xs j ≡ Some x)
      → i ≡ j
  by (inl c) (inl d) = c.0 ∙ sym d.0
  by (inl c) (inr d) = absurd (new (subst (Has xs) (sym c.1) (Has-slice_get xs j x d)))
  by (inr c) (inl d) = absurd (new (subst (Has xs) (sym d.1) (Has-slice_get xs i x c)))
  by (inr c) (inr d) = distinct i j x c d
