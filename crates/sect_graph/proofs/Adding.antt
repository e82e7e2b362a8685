-- Lists of lists to which elements are added.
use Rattle.std.proofs.Common.{◌≡◌, ◌↔◌, ◌⊎◌, ℕ, ◌<◌, List, [], ◌∷◌, ◌++◌, set, length, get_or, inl, inr, sym, ap, ◌∙◌}
use Rattle.std.proofs.{Common.{subst}, lemmas.Bool.{cases_eq}, lemmas.List.{get_or-set_same, get_or-set_other}}
use Rattle.std.specs.Prelude.{slice_index_or}
use Rattle.sect_lemmas.specs.Lists.{Has}
use Rattle.sect_lemmas.proofs.Membership.{Has-cases, Has-left, Has-right}
use Rattle.sect_graph.specs.Predecessors.{IsAdded}

-- one element more in the list at a place
pub put_at : {X : Type 0} (lists : List (List X)) (to : ℕ) (x : X) (new : List X) → to < length lists
    → ((y : X) → Has new y ↔ (Has (slice_index_or lists to []) y ⊎ (y ≡ x))) → IsAdded lists (set lists to new) to x
put_at lists to x new there put m within y =
    elim (cases_eq m to) [
      | inl e ↦
          let here : slice_index_or (set lists to new) m [] ≡ new = ap (λ k. get_or (set lists to new) k []) e
          ∙ get_or-set_same lists to new [] there in
          let was : slice_index_or lists m [] ≡ slice_index_or lists to [] = ap (λ k. get_or lists k []) e in (
            λ h. elim ((put y).0 (subst (λ l. Has l y) here h))
                [ inl a ↦ inl (subst (λ l. Has l y) (sym was) a) | inr q ↦ inr (e, q) ],
            λ h. subst (λ l. Has l y) (sym here)
                ((put y).1 (elim h [ inl a ↦ inl (subst (λ l. Has l y) was a) | inr b ↦ inr b.1 ])),
          )
      | inr n ↦
          let here : slice_index_or (set lists to new) m [] ≡ slice_index_or lists m [] =
          get_or-set_other lists to m new [] n in (
            λ h. inl (subst (λ l. Has l y) here h),
            λ h. subst (λ l. Has l y) (sym here) (elim h [ inl a ↦ a | inr b ↦ absurd (n b.0) ]),
          )
    ]

-- it is put behind that list
pub push_at : {X : Type 0} (lists : List (List X)) (to : ℕ) (x : X) → to < length lists
    → IsAdded lists (set lists to (slice_index_or lists to [] ++ x ∷ [])) to x
push_at lists to x there =
    let old = slice_index_or lists to [] in
    put_at lists to x (old ++ x ∷ []) there (λ y. (
      λ h. elim (Has-cases old (x ∷ []) y h) [
        | inl a ↦ inl a
        | inr b ↦ elim b [ inl e ↦ inr (sym e) | inr none ↦ absurd none ]
      ],
      λ h. elim h [ inl a ↦ Has-left old (x ∷ []) y a | inr e ↦ Has-right old (x ∷ []) y (inl (sym e)) ],
    ))
