-- Lists in which no two elements are one.
use Rattle.std.proofs.Common.{◌≡◌, ◌↔◌, ◌⊎◌, inl, inr, ℕ, zero, suc, ◌≤◌, List, [], ◌∷◌, ◌++◌, Some, Bool, true, false}
use Rattle.std.proofs.Common.{nat_eq, length, refl, sym, ap, ◌∙◌, subst, true≢false}
use Rattle.std.proofs.lemmas.Map.Made.{length-le_from_is_member}
use Rattle.std.specs.{Prelude.{slice_get}, Bool.{Decides}, Cmp.{IsEquivalence, unsigned_Decides}}
use Rattle.std.specs.List.{IsDistinct, AllByRecursion}
use Rattle.sect_lemmas.specs.Lists.{Has}
use Rattle.sect_lemmas.proofs.{Membership.{Has-cases, Has-slice_get}, Finding.{any_tells}, Inserting.{inserted}}
use Rattle.sect_infer.specs.Numbers.{has_number, with_number, AreApart}

-- one more element, which isn't there
pub apart_push : {X : Type 0} (xs : List X) (x : X) → AreApart xs → (Has xs x → ⊥) → AreApart (xs ++ x ∷ [])
apart_push [] x a n = (λ h. h, tt)
apart_push (y ∷ xs) x a n = (
  λ h. elim (Has-cases xs (x ∷ []) y h)
      [ inl k ↦ a.0 k | inr k ↦ elim k [ inl e ↦ n (inl (sym e)) | inr none ↦ none ] ],
  apart_push xs x a.1 (λ h. n (inr h)),
)

-- an element stands at one place
pub apart_one : {X : Type 0} (xs : List X) (i j : ℕ) (x : X) → AreApart xs → slice_get xs i ≡ Some x
    → slice_get xs j ≡ Some x → i ≡ j
apart_one [] i j x a h k = absurd cc
apart_one (y ∷ xs) zero zero x a h k = refl
apart_one (y ∷ xs) zero (suc j) x a h k = absurd (a.0 (let e : x ≡ y = cc in subst (Has xs) e (Has-slice_get xs j x k)))
apart_one (y ∷ xs) (suc i) zero x a h k = absurd (a.0 (let e : x ≡ y = cc in subst (Has xs) e (Has-slice_get xs i x h)))
apart_one (y ∷ xs) (suc i) (suc j) x a h k = ap (λ n. suc n) (apart_one xs i j x a.1 h k)

-- a list without repetition is no longer than one that has all its elements
module _ {X : Type 0} {eq : X → X → Bool} (laws : IsEquivalence eq) (tells : (x y : X) → Decides (eq x y) (x ≡ y)) where
  -- an element that isn't there is equal to none
  unlike : (x : X) (ys : List X) → (Has ys x → ⊥) → AllByRecursion (λ y. eq x y ≡ false) ys
  unlike x [] n = tt
  unlike x (y ∷ ys) n = (go (eq x y) refl, unlike x ys (λ h. n (inr h)))
    where
      go : (b : Bool) → eq x y ≡ b → b ≡ false
      go true e = absurd (n (inl (sym ((tells x y).0 e))))
      go false e = refl

  -- such a list in the words of the library
  pub distinct : (xs : List X) → AreApart xs → IsDistinct eq xs
  unfolding IsDistinct
  distinct [] a = tt
  distinct (x ∷ xs) a = (unlike x xs a.0, distinct xs a.1)

  pub apart_short : (xs ys : List X) → AreApart xs → ((x : X) → Has xs x → Has ys x) → length xs ≤ length ys
  apart_short xs ys a within = length-le_from_is_member laws xs ys (distinct xs a)
      (λ x h. (any_tells eq tells ys x).1 (within x ((any_tells eq tells xs x).0 h)))

-- numbers that are there
pub number_tells : (ns : List ℕ) (n : ℕ) → (has_number ns n ≡ true) ↔ Has ns n
number_tells ns n = any_tells nat_eq unsigned_Decides ns n

-- a number whose test fails isn't there
pub number_absent : (ns : List ℕ) (n : ℕ) → has_number ns n ≡ false → Has ns n → ⊥
number_absent ns n off h = true≢false (sym ((number_tells ns n).1 h) ∙ off)

-- a number behind others, unless it is there: what is there then, that none is there twice, and that the others come
-- first
pub with_has : (ns : List ℕ) (n m : ℕ) → Has (with_number ns n) m ↔ (Has ns m ⊎ (m ≡ n))
with_has ns n m = inserted nat_eq unsigned_Decides ns n m
