-- Lists that are made element by element from others.
use Rattle.std.proofs.Common.{◌≡◌, ◌↔◌, ℕ, ◌+◌, ◌<◌, ◌≤◌, List, [], ◌∷◌, ◌++◌, ◌⊎◌, inl, inr, sym, subst, take, length}
use Rattle.std.proofs.{Common.{get_or, refl, ap, ◌∙◌}, lemmas.List.{append-nil, take_more, take_all}}
use Rattle.sect_lemmas.specs.Lists.{Has}
use Rattle.sect_lemmas.proofs.Membership.{Has-cases, Has-left, Has-right}

module _ {A B : Type 0} (P : A → B → Type 0) where
  -- the second list has just what elements of the first are related to
  abbrev pub Makes : List A → List B → Type 0
  Makes xs ys = (y : B) → Has ys y ↔ ((x : A) × Has xs x × P x y)

  pub makes_none : Makes [] []
  makes_none y = (λ h. absurd h, λ h. absurd h.1)

  -- one element more, and what it is related to
  pub makes_more : (xs : List A) (ys : List B) (x : A) (more : List B) → Makes xs ys → ((y : B) → Has more y ↔ P x y)
      → Makes (xs ++ x ∷ []) (ys ++ more)
  makes_more xs ys x more before here y = (
    λ h. elim (Has-cases ys more y h) [
      | inl a ↦ (let r = (before y).0 a in (r.0, Has-left xs (x ∷ []) r.0 r.1, r.2))
      | inr b ↦ (x, Has-right xs (x ∷ []) x (inl refl), (here y).0 b)
    ],
    λ h. elim (Has-cases xs (x ∷ []) h.0 h.1) [
      | inl a ↦ Has-left ys more y ((before y).1 (h.0, a, h.2))
      | inr b ↦ elim b [ inl e ↦ Has-right ys more y ((here y).1 (subst (λ z. P z y) (sym e) h.2)) | inr k ↦ absurd k ]
    ],
  )

  -- the next element of a list, that a loop has come to: what it is related to is added, or it is related to nothing
  pub makes_next : (xs : List A) (i : ℕ) (x : A) (ys more : List B) → i < length xs → x ≡ get_or xs i x
      → Makes (take i xs) ys → ((y : B) → Has more y ↔ P x y) → Makes (take (i + 1) xs) (ys ++ more)
  makes_next xs i x ys more within is before here =
      let next : take (i + 1) xs ≡ take i xs ++ x ∷ [] = take_more xs i x within
      ∙ ap (λ z. take i xs ++ z ∷ []) (sym is) in
      subst (λ zs. Makes zs (ys ++ more)) (sym next) (makes_more (take i xs) ys x more before here)

  -- the same, where it is put somewhere among the others
  pub makes_put : (xs : List A) (i : ℕ) (x : A) (ys new : List B) → i < length xs → x ≡ get_or xs i x
      → Makes (take i xs) ys → ((y : B) → Has new y ↔ (Has ys y ⊎ P x y)) → Makes (take (i + 1) xs) new
  makes_put xs i x ys new within is before grown =
      let next : take (i + 1) xs ≡ take i xs ++ x ∷ [] = take_more xs i x within
      ∙ ap (λ z. take i xs ++ z ∷ []) (sym is) in
      subst (λ zs. Makes zs new) (sym next) (λ y. (
        λ h. elim ((grown y).0 h) [
          | inl a ↦ (let r = (before y).0 a in (r.0, Has-left (take i xs) (x ∷ []) r.0 r.1, r.2))
          | inr b ↦ (x, Has-right (take i xs) (x ∷ []) x (inl refl), b)
        ],
        λ h. (grown y).1 (elim (Has-cases (take i xs) (x ∷ []) h.0 h.1) [
          | inl a ↦ inl ((before y).1 (h.0, a, h.2))
          | inr b ↦ elim b [ inl e ↦ inr (subst (λ z. P z y) (sym e) h.2) | inr k ↦ absurd k ]
        ]),
      ))

  pub makes_skip : (xs : List A) (i : ℕ) (x : A) (ys : List B) → i < length xs → x ≡ get_or xs i x
      → Makes (take i xs) ys → ((y : B) → P x y → ⊥) → Makes (take (i + 1) xs) ys
  makes_skip xs i x ys within is before nothing =
      subst (Makes (take (i + 1) xs)) (append-nil ys)
      (makes_next xs i x ys [] within is before (λ y. (λ h. absurd h, λ h. nothing y h)))

  pub makes_done : (xs : List A) (n : ℕ) (ys : List B) → length xs ≤ n → Makes (take n xs) ys → Makes xs ys
  makes_done xs n ys past all = subst (λ zs. Makes zs ys) (take_all n xs past) all

-- a list of one element has it alone
pub one_has : {B : Type 0} (x y : B) → Has (x ∷ []) y ↔ (y ≡ x)
one_has x y = (λ h. elim h [ inl e ↦ sym e | inr k ↦ absurd k ], λ e. inl (sym e))

-- the element of a list that a loop has come to is the last of those so far
pub last_of : {X : Type 0} (xs : List X) (i : ℕ) (x y : X) → i < length xs → x ≡ get_or xs i x → Has (take (i + 1) xs) y
    → Has (take i xs) y ⊎ (y ≡ x)
last_of {X} xs i x y within is h =
    let next : take (i + 1) xs ≡ take i xs ++ x ∷ [] = take_more xs i x within
    ∙ ap (λ z. take i xs ++ z ∷ []) (sym is) in
    elim (Has-cases (take i xs) (x ∷ []) y (subst (λ l. Has l y) next h))
    [ inl a ↦ inl a | inr b ↦ elim b [ inl e ↦ inr (sym e) | inr k ↦ absurd k ] ]

pub so_far : {X : Type 0} (xs : List X) (i : ℕ) (x y : X) → i < length xs → x ≡ get_or xs i x
    → Has (take i xs) y ⊎ (y ≡ x) → Has (take (i + 1) xs) y
so_far {X} xs i x y within is h =
    let next : take (i + 1) xs ≡ take i xs ++ x ∷ [] = take_more xs i x within
    ∙ ap (λ z. take i xs ++ z ∷ []) (sym is) in
    subst (λ l. Has l y) (sym next)
    (elim h [ inl a ↦ Has-left (take i xs) (x ∷ []) y a | inr e ↦ Has-right (take i xs) (x ∷ []) y (inl (sym e)) ])
