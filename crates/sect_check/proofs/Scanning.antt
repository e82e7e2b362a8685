-- Loops through lists and numbers.
use Rattle.std.proofs.Common.{◌≡◌, ◌↔◌, ℕ, ◌+◌, ◌<◌, List, inl, inr, sym, subst, take, length, get_or, arith}
use Rattle.std.proofs.lemmas.Bool.{cases_lt}
use Rattle.sect_lemmas.specs.Lists.{Has}
use Rattle.sect_lemmas.proofs.{Membership.{Has-get_or}, Making.{last_of}}

module _ {X : Type 0} (P : X → Type 0) where
  -- so holds of the elements so far, and of one more
  pub each_more : (xs : List X) (i : ℕ) (x : X) → i < length xs → x ≡ get_or xs i x
      → ((y : X) → Has (take i xs) y → P y) → P x → (y : X) → Has (take (i + 1) xs) y → P y
  each_more xs i x within is before here y h =
      elim (last_of xs i x y within is h) [ inl a ↦ before y a | inr e ↦ subst P (sym e) here ]

-- the element that a loop has come to
pub item_has : {X : Type 0} (xs : List X) (i : ℕ) (x : X) → i < length xs → x ≡ get_or xs i x → Has xs x
item_has xs i x within is = subst (Has xs) (sym is) (Has-get_or xs i x within)

-- equal lists have the same
pub same_has : {X : Type 0} {xs ys : List X} → xs ≡ ys → (x : X) → Has xs x ↔ Has ys x
same_has e x = (λ h. subst (λ zs. Has zs x) e h, λ h. subst (λ zs. Has zs x) (sym e) h)

-- so holds of each number below, and of one more
pub below_next : (P : ℕ → Type 0) (i : ℕ) → ((m : ℕ) → m < i → P m) → P i → (m : ℕ) → m < i + 1 → P m
below_next P i before here m lt =
    elim (cases_lt m i) [ inl a ↦ before m a | inr b ↦ (let e : m ≡ i = omega (arith, lt, b) in subst P (sym e) here) ]
