-- Elements that are chosen from a list.
use Rattle.std.proofs.Common.{◌≡◌, ◌⊎◌, ℕ, ◌+◌, ◌<◌, List, [], ◌∷◌, ◌++◌, length, take, get_or, refl, sym, ap, ◌∙◌}
use Rattle.std.proofs.{Common.{subst, inl, inr}, lemmas.List.{append_assoc, append-nil, get_or_default}}
use Rattle.sect_lemmas.proofs.Making.{last_of}
use Rattle.sect_lemmas.specs.Lists.{Has}
use Rattle.sect_conflicts.specs.{Conflicts.{Selects}, Selecting.{Adds}}

module _ {X : Type 0} (P : X → Type 0) where
  -- what is chosen stands in the list and has the property
  pub selected : (xs ys : List X) → Selects P xs ys → (y : X) → Has ys y → Has xs y × P y
  selected [] ys none y h = absurd (subst (λ zs. Has zs y) none h)
  selected (x ∷ xs) ys (inl (rest, p, is, more)) y h = elim (subst (λ zs. Has zs y) is h) [
    | inl e ↦ (inl e, subst P e p)
    | inr k ↦ (let r = selected xs rest more y k in (inr r.0, r.1))
  ]
  selected (x ∷ xs) ys (inr (fails, more)) y h = let r = selected xs ys more y h in (inr r.0, r.1)

  -- and all that does so is chosen
  pub all_selected : (xs ys : List X) → Selects P xs ys → (y : X) → Has xs y → P y → Has ys y
  all_selected [] ys none y h q = absurd h
  all_selected (x ∷ xs) ys (inl (rest, p, is, more)) y (inl e) q = subst (λ zs. Has zs y) (sym is) (inl e)
  all_selected (x ∷ xs) ys (inl (rest, p, is, more)) y (inr k) q =
      subst (λ zs. Has zs y) (sym is) (inr (all_selected xs rest more y k q))
  all_selected (x ∷ xs) ys (inr (fails, more)) y (inl e) q = absurd (fails (subst P (sym e) q))
  all_selected (x ∷ xs) ys (inr (fails, more)) y (inr k) q = all_selected xs ys more y k q

  -- each of the list is chosen or doesn't have the property
  pub chosen_or_not : (xs ys : List X) → Selects P xs ys → (y : X) → Has xs y → Has ys y ⊎ (P y → ⊥)
  chosen_or_not [] ys none y h = absurd h
  chosen_or_not (x ∷ xs) ys (inl (rest, p, is, more)) y (inl e) = inl (subst (λ zs. Has zs y) (sym is) (inl e))
  chosen_or_not (x ∷ xs) ys (inl (rest, p, is, more)) y (inr k) = elim (chosen_or_not xs rest more y k) [
    | inl h ↦ inl (subst (λ zs. Has zs y) (sym is) (inr h))
    | inr fails ↦ inr fails
  ]
  chosen_or_not (x ∷ xs) ys (inr (fails, more)) y (inl e) = inr (subst (λ z. P z → ⊥) e fails)
  chosen_or_not (x ∷ xs) ys (inr (fails, more)) y (inr k) = chosen_or_not xs ys more y k

  -- of two lists one after the other
  selects_both : (xs ys chosen more_chosen : List X) → Selects P xs chosen → Selects P ys more_chosen
      → Selects P (xs ++ ys) (chosen ++ more_chosen)
  selects_both [] ys chosen more_chosen none q = subst (λ zs. Selects P ys (zs ++ more_chosen)) (sym none) q
  selects_both (x ∷ xs) ys chosen more_chosen (inl (rest, p, is, more)) q =
      inl (rest ++ more_chosen, p, ap (λ zs. zs ++ more_chosen) is, selects_both xs ys rest more_chosen more q)
  selects_both (x ∷ xs) ys chosen more_chosen (inr (fails, more)) q =
      inr (fails, selects_both xs ys chosen more_chosen more q)

  -- nothing comes to a list
  pub adds_nothing : (old : List X) → Adds P [] old old
  adds_nothing old = ([], sym (append-nil old), refl)

  -- an element comes to it
  pub adds_one : (x : X) (old new : List X) → P x → new ≡ old ++ x ∷ [] → Adds P (x ∷ []) old new
  adds_one x old new p is = (x ∷ [], is, inl ([], p, refl, refl))

  -- or doesn't
  pub adds_none : (x : X) (old : List X) → (P x → ⊥) → Adds P (x ∷ []) old old
  adds_none x old fails = ([], sym (append-nil old), inr (fails, refl))

  -- what is chosen of two lists comes one after the other
  pub adds_both : (xs ys old mid new : List X) → Adds P xs old mid → Adds P ys mid new → Adds P (xs ++ ys) old new
  adds_both xs ys old mid new a b = (
    a.0 ++ b.0,
    b.1 ∙ ap (λ l. l ++ b.0) a.1 ∙ append_assoc old a.0 b.0,
    selects_both xs ys a.0 b.0 a.2 b.2,
  )

  -- from an empty list on
  pub adds_all : (xs new : List X) → Adds P xs [] new → Selects P xs new
  adds_all xs new a = subst (Selects P xs) (sym a.1) a.2

-- what holds of each element so far, and of one more
pub more_at : {X : Type 0} (P : X → Type 0) (xs : List X) (i : ℕ) (d : X) → i < length xs
    → ((y : X) → Has (take i xs) y → P y) → P (get_or xs i d) → (y : X) → Has (take (i + 1) xs) y → P y
more_at P xs i d within before here y h =
    elim (last_of xs i (get_or xs i d) y within (get_or_default xs i d (get_or xs i d) within) h) [
      | inl a ↦ before y a
      | inr e ↦ subst P (sym e) here
    ]

-- and one that isn't has some
pub some_item : {X : Type 0} (xs : List X) → (xs ≡ [] → ⊥) → (x : X) × Has xs x
some_item [] h = absurd (h refl)
some_item (x ∷ xs) h = (x, inl refl)
