-- Lists that are made of others.
use Rattle.std.proofs.Common.{ℕ, zero, suc, ◌<◌, List, [], ◌∷◌, map, sym, ap, subst, inl, inr, arith, ◌≡◌, ◌+◌, ◌++◌}
use Rattle.std.proofs.{Common.{◌∙◌}, lemmas.Bool.{cases_eq}}
use Rattle.std.specs.List.{flat_map, range_with_len}
use Rattle.sect_lemmas.specs.Lists.{Has}
use Rattle.sect_lemmas.proofs.Membership.{Has-left, Has-right}

pub Has-map : {X Y : Type 0} (f : X → Y) (xs : List X) (x : X) → Has xs x → Has (map f xs) (f x)
Has-map f [] x h = absurd h
Has-map f (y ∷ xs) x h = elim h [ inl e ↦ inl (ap f e) | inr k ↦ inr (Has-map f xs x k) ]

pub Has-flat_map : {X Y : Type 0} (f : X → List Y) (xs : List X) (x : X) (y : Y) → Has xs x → Has (f x) y
    → Has (flat_map f xs) y
Has-flat_map f [] x y h k = absurd h
Has-flat_map f (z ∷ xs) x y h k = elim h [
  | inl e ↦ Has-left (f z) (flat_map f xs) y (subst (λ w. Has (f w) y) (sym e) k)
  | inr m ↦ Has-right (f z) (flat_map f xs) y (Has-flat_map f xs x y m k)
]

-- the numbers below n
abbrev pub below : ℕ → List ℕ
below zero = []
below (suc n) = n ∷ below n

pub Has-below : (n i : ℕ) → i < n → Has (below n) i
Has-below zero i h = absurd (omega arith)
Has-below (suc n) i h = elim (cases_eq n i) [ inl e ↦ inl e | inr other ↦ inr (Has-below n i (omega arith)) ]

-- numbers from a one on, and one more
pub range_more : (a n : ℕ) → range_with_len a (suc n) ≡ range_with_len a n ++ (a + n) ∷ []
range_more a zero = ap (λ m. m ∷ []) (omega arith)
range_more a (suc n) = ap (λ xs. a ∷ xs) (range_more (a + 1) n
    ∙ ap (λ m. range_with_len (a + 1) n ++ m ∷ []) (omega arith))
