-- Orders of sections, the shorter first, and those of one length as their threads come.
use Rattle.std.proofs.Common.{◌≡◌, ◌<◌, ◌+◌, inl, inr, ℕ, zero, suc, List, [], ◌∷◌, ◌++◌, Some, refl, sym, ap, subst}
use Rattle.std.proofs.Common.{◌∙◌, arith, length, length-append, slice_get}
use Rattle.sect_lemmas.specs.Lists.{Has}
use Rattle.sect_lemmas.proofs.{Membership.{Has-cases, Has-slice_get}, Options.{some_injective}}
use Rattle.sect_serial.specs.{Exploring.{IsLess, IsBefore, AreRising}, steps.States.{IsAtMost}}

less_transitive : (u v w : List ℕ) → IsLess u v → IsLess v w → IsLess u w
less_transitive [] v w a b = absurd a
less_transitive (x ∷ u) [] w a b = absurd a
less_transitive (x ∷ u) (y ∷ v) [] a b = absurd b
less_transitive (x ∷ u) (y ∷ v) (z ∷ w) (inl a) (inl b) = inl (omega (arith, a, b))
less_transitive (x ∷ u) (y ∷ v) (z ∷ w) (inl a) (inr b) = inl (let e = b.0 in omega (arith, a, e))
less_transitive (x ∷ u) (y ∷ v) (z ∷ w) (inr a) (inl b) = inl (let e = a.0 in omega (arith, e, b))
less_transitive (x ∷ u) (y ∷ v) (z ∷ w) (inr a) (inr b) = inr (a.0 ∙ b.0, less_transitive u v w a.1 b.1)

less_itself : (w : List ℕ) → IsLess w w → ⊥
less_itself [] a = a
less_itself (x ∷ w) (inl a) = absurd (omega (arith, a))
less_itself (x ∷ w) (inr a) = less_itself w a.1

-- whatever stands behind them
less_more : (v w a b : List ℕ) → IsLess v w → IsLess (v ++ a) (w ++ b)
less_more [] w a b h = absurd h
less_more (x ∷ v) [] a b h = absurd h
less_more (x ∷ v) (y ∷ w) a b (inl h) = inl h
less_more (x ∷ v) (y ∷ w) a b (inr h) = inr (h.0, less_more v w a b h.1)

less_last : (v : List ℕ) (t u : ℕ) → t < u → IsLess (v ++ t ∷ []) (v ++ u ∷ [])
less_last [] t u lt = inl lt
less_last (x ∷ v) t u lt = inr (refl, less_last v t u lt)

-- one section more is one place more
one_more : (v : List ℕ) (t : ℕ) → length (v ++ t ∷ []) ≡ length v + 1
one_more v t = length-append v (t ∷ [])

pub before_transitive : (u v w : List ℕ) → IsBefore u v → IsBefore v w → IsBefore u w
before_transitive u v w (inl a) (inl b) = inl (omega (arith, a, b))
before_transitive u v w (inl a) (inr b) = inl (let e = b.0 in omega (arith, a, e))
before_transitive u v w (inr a) (inl b) = inl (let e = a.0 in omega (arith, e, b))
before_transitive u v w (inr a) (inr b) = inr (a.0 ∙ b.0, less_transitive u v w a.1 b.1)

pub before_itself : (w : List ℕ) → IsBefore w w → ⊥
before_itself w (inl a) = absurd (omega (arith, a))
before_itself w (inr a) = less_itself w a.1

-- one section more is later
pub before_more : (v : List ℕ) (t : ℕ) → IsBefore v (v ++ t ∷ [])
before_more v t = inl (let e = one_more v t in omega (arith, e))

-- whatever section follows in each
pub before_longer : (v w : List ℕ) (t u : ℕ) → IsBefore v w → IsBefore (v ++ t ∷ []) (w ++ u ∷ [])
before_longer v w t u (inl a) = inl (let e = one_more v t in let d = one_more w u in omega (arith, a, e, d))
before_longer v w t u (inr a) =
    let same = a.0 in
    inr (
      (let e = one_more v t in let d = one_more w u in omega (arith, same, e, d)),
      less_more v w (t ∷ []) (u ∷ []) a.1,
    )

-- the section of a later thread
pub before_last : (v : List ℕ) (t u : ℕ) → t < u → IsBefore (v ++ t ∷ []) (v ++ u ∷ [])
before_last v t u lt = inr (one_more v t ∙ sym (one_more v u), less_last v t u lt)

pub at_most_before : (u v w : List ℕ) → IsAtMost u v → IsBefore v w → IsBefore u w
at_most_before u v w (inl a) b = before_transitive u v w a b
at_most_before u v w (inr a) b = subst (λ x. IsBefore x w) (sym a) b

pub before_at_most : (u v w : List ℕ) → IsBefore u v → IsAtMost v w → IsBefore u w
before_at_most u v w a (inl b) = before_transitive u v w a b
before_at_most u v w a (inr b) = subst (IsBefore u) b a

pub at_most_transitive : (u v w : List ℕ) → IsAtMost u v → IsAtMost v w → IsAtMost u w
at_most_transitive u v w a (inl b) = inl (at_most_before u v w a b)
at_most_transitive u v w a (inr b) = subst (IsAtMost u) b a

-- the same section follows in each
pub at_most_longer : (v w : List ℕ) (t : ℕ) → IsAtMost v w → IsAtMost (v ++ t ∷ []) (w ++ t ∷ [])
at_most_longer v w t (inl a) = inl (before_longer v w t t a)
at_most_longer v w t (inr a) = inr (ap (λ (x : List ℕ). x ++ t ∷ []) a)

module _ {X : Type 0} where
  -- what comes behind all is put at the end
  pub rising_push : (xs : List (X × List ℕ)) (x : X × List ℕ) → AreRising xs
      → ((y : X × List ℕ) → Has xs y → IsBefore y.1 x.1) → AreRising (xs ++ x ∷ [])
  rising_push [] x rising behind = (λ y h. absurd h, tt)
  rising_push (z ∷ xs) x rising behind = (
    λ y h. elim (Has-cases xs (x ∷ []) y h) [
      | inl there ↦ rising.0 y there
      | inr last ↦ elim last [
        | inl is ↦ subst (λ (w : X × List ℕ). IsBefore z.1 w.1) is (behind z (inl refl))
        | inr no_more ↦ absurd no_more
      ]
    ],
    rising_push xs x rising.1 (λ y h. behind y (inr h)),
  )

  -- what stands first comes first
  pub rising_places : (xs : List (X × List ℕ)) (i j : ℕ) (x y : X × List ℕ) → AreRising xs → i < j
      → slice_get xs i ≡ Some x → slice_get xs j ≡ Some y → IsBefore x.1 y.1
  rising_places [] i j x y rising lt a b = absurd cc
  rising_places (z ∷ xs) i zero x y rising lt a b = absurd (omega (arith, lt))
  rising_places (z ∷ xs) zero (suc j) x y rising lt a b =
      subst (λ (w : X × List ℕ). IsBefore w.1 y.1) (some_injective z x a) (rising.0 y (Has-slice_get xs j y b))
  rising_places (z ∷ xs) (suc i) (suc j) x y rising lt a b =
      rising_places xs i j x y rising.1 (omega (arith, lt)) a b
