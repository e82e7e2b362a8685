-- Elements that are looked for by a comparison.
use Rattle.std.proofs.Common.{◌≡◌, ◌↔◌, ◌⊎◌, inl, inr, List, [], ◌∷◌, Bool, true, false, refl, sym, true≢false, ℕ, ◌≤◌}
use Rattle.std.proofs.{Common.{Option, Some, None, length, get_or, ap, ◌∙◌, arith}, lemmas.Bool.{ltb-false}}
use Rattle.std.proofs.{lemmas.List.Quantifiers.{position-Some}, lemmas.List.Sums.{fails_before_first}}
use Rattle.std.proofs.lemmas.Option.{slice_get_within, get_or_from_slice_get, slice_get-get_or}
use Rattle.std.specs.{Prelude.{◌||◌, slice_get, position, cond, nat_lt, MatchOption}, Bool.{Decides}}
use Rattle.std.specs.List.{list_any, position_or_len}
use Rattle.sect_lemmas.specs.Lists.{Has}
use Rattle.sect_lemmas.proofs.Places.{Has-index}

-- a look-up by a comparison that tells which are one finds what the list has
pub any_tells : {X : Type 0} (eq : X → X → Bool) → ((x y : X) → Decides (eq x y) (x ≡ y)) → (xs : List X) (x : X)
    → (list_any (eq x) xs ≡ true) ↔ Has xs x
any_tells eq tells [] x = (λ t. absurd (true≢false (sym t)), λ h. absurd h)
any_tells {X} eq tells (y ∷ ys) x = go (eq x y) (tells x y) (any_tells eq tells ys x)
  where
    go : (b : Bool) → Decides b (x ≡ y) → ((list_any (eq x) ys ≡ true) ↔ Has ys x) → ((b || list_any (eq x) ys) ≡ true)
        ↔ ((y ≡ x) ⊎ Has ys x)
    go true d rest = (λ t. inl (sym (d.0 refl)), λ h. refl)
    go false d rest = (
      λ t. inr (rest.0 t),
      λ h. elim h [ inl e ↦ absurd (true≢false (sym (d.1 (sym e)))) | inr k ↦ rest.1 k ],
    )

-- no place is given only past the end
none_past : (i n : ℕ) → cond (nat_lt i n) (Some i) None ≡ None → n ≤ i
none_past i n = go (nat_lt i n) refl
  where
    go : (b : Bool) → nat_lt i n ≡ b → cond b (Some i) None ≡ None → n ≤ i
    go true e h = absurd cc
    go false e h = ltb-false i n e

-- the place of an element, by a test that tells which it is
pub place_tells : {X : Type 0} (eq : X → X → Bool) → ((x y : X) → Decides (eq x y) (x ≡ y)) → (xs : List X) (x : X)
    → MatchOption (position (eq x) xs) (Has xs x → ⊥) (λ i. slice_get xs i ≡ Some x)
place_tells {X} eq tells xs x = go (position (eq x) xs) refl
  where
    go : (o : Option ℕ) → position (eq x) xs ≡ o → MatchOption o (Has xs x → ⊥) (λ i. slice_get xs i ≡ Some x)
    go (Some i) e =
        let found = position-Some (eq x) xs i x e in
        slice_get-get_or xs i x found.0 ∙ ap (λ z. Some z) (sym ((tells x (get_or xs i x)).0 found.1))
    go None e = λ h.
        let k = Has-index xs x h in
        let at = slice_get_within xs k.0 x k.1 in
        let here : get_or xs k.0 x ≡ x = get_or_from_slice_get xs k.0 x x k.1 in
        let past = none_past (position_or_len (eq x) xs) (length xs) e in
        true≢false (sym ((tells x x).1 refl) ∙ ap (eq x) (sym here)
        ∙ fails_before_first (eq x) xs k.0 x (omega (arith, at, past)))
