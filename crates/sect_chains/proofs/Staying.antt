-- Locks that stay where they are carried back.
use Rattle.std.proofs.Common.{◌≡◌, ◌↔◌, ◌<◌, ℕ, List, [], ◌∷◌, Some, length, inl, inr, refl, sym, ap, ◌∙◌, subst}
use Rattle.std.proofs.lemmas.Option.{slice_get_within}
use Rattle.std.specs.Prelude.{slice_get}
use Rattle.sect_lemmas.specs.Lists.{Has}
use Rattle.sect_lemmas.proofs.{Membership.{Has-slice_get}, Places.{one_at}}
use Rattle.sect_graph.specs.declared.flow.Node.{Node}
use Rattle.sect_types.specs.declared.expansion.action.Label.{Label}
use Rattle.sect_names.specs.{declared.lock.Lock.{Lock}, Schemes.{SchemeView}, Carrying.{CarriedBack}, Chains.{link}}
use Rattle.sect_names.specs.{Laws.{AreLawful}, Locks.{IsLockOf}, declared.link.Link.{Link}}
use Rattle.sect_infer.specs.Numberings.{NumberingView, IsNumbering, Finds}
use Rattle.sect_infer.proofs.shared.Extending.{extends_none}
use Rattle.sect_chains.specs.declared.keep.KeptLink.{KeptLink}
use Rattle.sect_chains.specs.steps.{Keeping.{KeptView}, Working.{IsKept, links_of}}
use Rattle.sect_chains.proofs.{Growing.{kept_numbers, step_found, lock_is}, Working.{trail_lock}}

-- a lock that is carried back to itself alone is found by its number
pub finds_same : (s : SchemeView) (t : ℕ) (a : NumberingView) (n : ℕ) (l : Lock) (label : Label) → IsNumbering s a
    → slice_get a.keys n ≡ Some l → ((r : Lock) → CarriedBack s t label l r ↔ (r ≡ l))
    → Finds s a [] a (n ∷ []) (CarriedBack s t label l)
finds_same s t a n l label is at same = record {
  finding = record {
    numbering = is;
    numbers = λ m h. elim h [
      | inl e ↦ subst (λ k. k < length a.keys) e (slice_get_within a.keys n l at)
      | inr none ↦ absurd none
    ];
    apart = (λ h. h, tt);
  };
  longer = extends_none a;
  behind = (n ∷ [], refl);
  each = λ r p. (n, inl refl, at ∙ ap (λ x. Some x) (sym ((same r).0 p)));
  only = λ r h. inr ((same r).1 (elim h.1 [
    | inl e ↦ one_at a.keys n r l (subst (λ k. slice_get a.keys k ≡ Some r) (sym e) h.2) at
    | inr none ↦ absurd none
  ]));
}

module _ (s : SchemeView) (t : ℕ) (last : List Lock) (g : List Node) (a : NumberingView) (w : KeptView)
    (work : IsKept s t last g a w) (lawful : AreLawful s t last g) (i : ℕ) (x : KeptLink)
    (at : slice_get w.steps i ≡ Some x) (lock : Lock) (named : slice_get a.keys x.number ≡ Some lock) (label : Label)
    (stays : IsLockOf s t lock → (r : Lock) → CarriedBack s t label lock r ↔ (r ≡ lock)) where
  there : Has w.steps x
  there = Has-slice_get w.steps i x at

  -- the lock of a kept step is one of the program
  is_lock : IsLockOf s t lock
  is_lock =
      let d = work.trails (link x.node lock) (step_found s t last g a w work x lock there named) in
      (trail_lock s t last g lawful (link x.node lock) d.0 d.1).1

  -- what is carried back of a kept step whose lock stays
  pub stayed : (y : Node) (b : Link) → label ≡ y.label → slice_get (links_of a.keys w.steps) i ≡ Some b
      → (x.node ≡ b.node) × Finds s a [] a (x.number ∷ []) (CarriedBack s t y.label b.lock)
  stayed y b same at_b =
      let told = lock_is a.keys w.steps i x b (kept_numbers s t last g a w work x there) at at_b in
      let is : lock ≡ b.lock = one_at a.keys x.number lock b.lock named told.1 in (
        told.0,
        subst (λ z. Finds s a [] a (x.number ∷ []) (CarriedBack s t z b.lock)) same
            (subst (λ l. Finds s a [] a (x.number ∷ []) (CarriedBack s t label l)) is
            (finds_same s t a x.number lock label work.numbering named (stays is_lock))),
      )
