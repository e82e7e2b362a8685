-- Lists in which no two elements are one.
use Rattle.std.proofs.Common.{◌≡◌, ◌↔◌, ◌⊎◌, inl, inr, ℕ, List, [], ◌∷◌, ◌++◌, Bool, true, false, refl, sym, ap, ◌∙◌}
use Rattle.std.proofs.{Common.{subst, true≢false}, lemmas.List.{append-nil}}
use Rattle.std.specs.{Prelude.{cond, if◌then◌else◌}, List.{filter}}
use Rattle.sect_lemmas.specs.Lists.{Has}
use Rattle.sect_lemmas.proofs.Membership.{Has-right, Has-cases}
use Rattle.sect_infer.specs.Numbers.{has_number, with_number, with_numbers, AreApart}
use Rattle.sect_infer.proofs.shared.Apart.{apart_push, number_absent, with_has}

-- lists that share nothing
pub apart_join : {X : Type 0} (xs ys : List X) → AreApart xs → AreApart ys → ((x : X) → Has xs x → Has ys x → ⊥)
    → AreApart (xs ++ ys)
apart_join [] ys a b n = b
apart_join (x ∷ xs) ys a b n = (
  λ h. elim (Has-cases xs ys x h) [ inl k ↦ a.0 k | inr k ↦ n x (inl refl) k ],
  apart_join xs ys a.1 b (λ y h k. n y (inr h) k),
)

-- the back of such a list, and that its front has none of it
pub apart_back : {X : Type 0} (xs ys : List X) → AreApart (xs ++ ys) → AreApart ys
apart_back [] ys a = a
apart_back (x ∷ xs) ys a = apart_back xs ys a.1

pub apart_across : {X : Type 0} (xs ys : List X) → AreApart (xs ++ ys) → (x : X) → Has xs x → Has ys x → ⊥
apart_across [] ys a x h k = h
apart_across (y ∷ xs) ys a x h k =
    elim h [ inl e ↦ a.0 (Has-right xs ys y (subst (Has ys) (sym e) k)) | inr m ↦ apart_across xs ys a.1 x m k ]

-- what a filter keeps
pub Has-filter : {X : Type 0} (p : X → Bool) (xs : List X) (x : X) → Has (filter p xs) x ↔ (Has xs x × (p x ≡ true))
Has-filter p [] x = (λ h. absurd h, λ h. absurd h.0)
Has-filter {X} p (y ∷ xs) x = go (p y) refl (Has-filter p xs x)
  where
    go : (b : Bool) → p y ≡ b → (Has (filter p xs) x ↔ (Has xs x × (p x ≡ true)))
        → Has (cond b (y ∷ filter p xs) (filter p xs)) x ↔ (Has (y ∷ xs) x × (p x ≡ true))
    go true e rest = (
      λ h. elim h [ inl f ↦ (inl f, ap p (sym f) ∙ e) | inr k ↦ (let r = rest.0 k in (inr r.0, r.1)) ],
      λ h. elim h.0 [ inl f ↦ inl f | inr k ↦ inr (rest.1 (k, h.1)) ],
    )
    go false e rest = (
      λ h. (let r = rest.0 h in (inr r.0, r.1)),
      λ h. elim h.0 [ inl f ↦ absurd (true≢false (sym h.1 ∙ ap p (sym f) ∙ e)) | inr k ↦ rest.1 (k, h.1) ],
    )

-- what a filter keeps of such a list
pub apart_filter : {X : Type 0} (p : X → Bool) (xs : List X) → AreApart xs → AreApart (filter p xs)
apart_filter p [] a = tt
apart_filter {X} p (x ∷ xs) a = go (p x) (apart_filter p xs a.1)
  where
    go : (b : Bool) → AreApart (filter p xs) → AreApart (cond b (x ∷ filter p xs) (filter p xs))
    go true rest = (λ h. a.0 ((Has-filter p xs x).0 h).0, rest)
    go false rest = rest

pub with_apart : (ns : List ℕ) (n : ℕ) → AreApart ns → AreApart (with_number ns n)
with_apart ns n a = go (has_number ns n) refl
  where
    go : (b : Bool) → has_number ns n ≡ b → AreApart (if b then ns else ns ++ n ∷ [])
    go true e = a
    go false e = apart_push ns n a (number_absent ns n e)

pub with_behind : (ns : List ℕ) (n : ℕ) → (more : List ℕ) × (with_number ns n ≡ ns ++ more)
with_behind ns n = go (has_number ns n)
  where
    go : (b : Bool) → (more : List ℕ) × ((if b then ns else ns ++ n ∷ []) ≡ ns ++ more)
    go true = ([], sym (append-nil ns))
    go false = (n ∷ [], refl)

-- the same of several numbers
pub with_all_has : (ns ms : List ℕ) (n : ℕ) → Has (with_numbers ns ms) n ↔ (Has ns n ⊎ Has ms n)
with_all_has ns [] n = (λ h. inl h, λ h. elim h [ inl k ↦ k | inr none ↦ absurd none ])
with_all_has ns (m ∷ ms) n =
    let rest = with_all_has (with_number ns m) ms n in
    let one = with_has ns m n in (
      λ h. elim (rest.0 h) [
        | inl k ↦ elim (one.0 k) [ inl a ↦ inl a | inr e ↦ inr (inl (sym e)) ]
        | inr b ↦
            inr (inr b)
      ],
      λ h. rest.1
          (elim h [
            | inl a ↦ inl (one.1 (inl a))
            | inr k ↦ elim k [ inl e ↦ inl (one.1 (inr (sym e))) | inr b ↦ inr b ]
          ]),
    )

pub with_all_apart : (ns ms : List ℕ) → AreApart ns → AreApart (with_numbers ns ms)
with_all_apart ns [] a = a
with_all_apart ns (m ∷ ms) a = with_all_apart (with_number ns m) ms (with_apart ns m a)
