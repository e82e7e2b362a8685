-- Locals at points that are added to others.
use Rattle.std.proofs.Common.{◌≡◌, ◌↔◌, ◌⊎◌, ◌++◌, ◌∙◌, List, [], ◌∷◌, Bool, true, false, refl, sym, ap, subst, inl, inr}
use Rattle.std.proofs.lemmas.List.{append-nil, append_assoc}
use Rattle.std.specs.{Prelude.{if◌then◌else◌}, List.{list_any}}
use Rattle.sect_lemmas.specs.Lists.{Has}
use Rattle.sect_lemmas.proofs.Inserting.{inserted}
use Rattle.sect_flows.specs.{declared.point.LocalAt.{LocalAt}, steps.Adding.{Adds}}
use Rattle.sect_flows.proofs.shared.Telling.{local_tells}
use Rattle.sect_flows.specs.contracts.point.LocalAtPartialEq.TheImpl.{ghosts as the_local_eq}

pub adds_one : (ks new : List LocalAt) (h : LocalAt)
    → new ≡ (if list_any (the_local_eq.eq h) ks then ks else ks ++ h ∷ [])
    → Adds (λ k. k ≡ h) ks new
adds_one ks new h e = record {
  grown = grown (list_any (the_local_eq.eq h) ks) e;
  each = λ k. subst (λ x. Has x k ↔ (Has ks k ⊎ (k ≡ h))) (sym e) (inserted the_local_eq.eq local_tells ks h k);
} where
  grown : (b : Bool) → new ≡ (if b then ks else ks ++ h ∷ []) → (more : List LocalAt) × (new ≡ ks ++ more)
  grown true same = ([], same ∙ sym (append-nil ks))
  grown false longer = (h ∷ [], longer)

-- nothing is added
pub adds_none : (P : LocalAt → Type 0) (ks : List LocalAt) → ((k : LocalAt) → P k → ⊥) → Adds P ks ks
adds_none P ks none = record {
  grown = ([], sym (append-nil ks));
  each = λ k. (λ h. inl h, λ h. elim h [ inl a ↦ a | inr b ↦ absurd (none k b) ]);
}

-- one after another
pub adds_then : (P Q : LocalAt → Type 0) (a b c : List LocalAt) → Adds P a b → Adds Q b c
    → Adds (λ k. P k ⊎ Q k) a c
adds_then P Q a b c first second = record {
  grown =
      let (more, e) = first.grown in
      let (rest, f) = second.grown in
      (more ++ rest, f ∙ ap (λ x. x ++ rest) e ∙ append_assoc a more rest);
  each = λ k. (
    λ h. elim ((second.each k).0 h) [
      | inl b ↦ elim ((first.each k).0 b) [ inl a ↦ inl a | inr p ↦ inr (inl p) ]
      | inr q ↦ inr (inr q)
    ],
    λ h. elim h [
      | inl a ↦ (second.each k).1 (inl ((first.each k).1 (inl a)))
      | inr d ↦ elim d [
        | inl p ↦ (second.each k).1 (inl ((first.each k).1 (inr p)))
        | inr q ↦ (second.each k).1 (inr q)
      ]
    ],
  );
}

-- said otherwise
pub adds_as : (P Q : LocalAt → Type 0) (a b : List LocalAt) → ((k : LocalAt) → P k ↔ Q k) → Adds P a b → Adds Q a b
adds_as P Q a b same added = record {
  grown = added.grown;
  each = λ k. (
    λ h. elim ((added.each k).0 h) [ inl x ↦ inl x | inr p ↦ inr ((same k).0 p) ],
    λ h. elim h [ inl x ↦ (added.each k).1 (inl x) | inr q ↦ (added.each k).1 (inr ((same k).1 q)) ],
  );
}
