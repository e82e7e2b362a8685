-- Which step each of the kept ones links to, and the chains that come of it.
use Rattle.std.proofs.Common.{◌≡◌, ℕ, List, [], ◌∷◌, ◌++◌, Option, Some, None, length, length-append, inl, inr, sym}
use Rattle.std.proofs.{Common.{subst, arith, append_assoc}, lemmas.Option.{slice_get_within}}
use Rattle.std.specs.Prelude.{slice_get}
use Rattle.sect_lemmas.proofs.{Places.{at_of, pushed_at}, Elements.{slice_get-left}}
use Rattle.sect_graph.specs.declared.flow.Node.{Node}
use Rattle.sect_names.specs.{declared.link.Link.{Link}, declared.lock.Lock.{Lock}, Schemes.{SchemeView}}
use Rattle.sect_names.specs.Chains.{link, LinksTo, AreLinked, IsChain}
use Rattle.sect_chains.specs.steps.Working.{IsReason}
use Rattle.sect_chains.specs.steps.Trails.{LeadsOn, LeadOn, GoBack, AreBehind, AreFrom, AreFromEntry}

module _ (s : SchemeView) (t : ℕ) (last : List Lock) (g : List Node) where
  -- what leads on in a list leads on in a longer one
  still : (kept more : List Link) (i : ℕ) (a : Link) (o : Option ℕ) → LeadsOn s t last g kept i a o
      → LeadsOn s t last g (kept ++ more) i a o
  still kept more i a None r = r
  still kept more i a (Some j) r = (r.0, (r.1.0, slice_get-left kept more j r.1.0 r.1.1, r.1.2))

  -- one step more, whose lock is generated, or that links to one of those before
  pub leads_push : (kept : List Link) (next : List (Option ℕ)) (a : Link) (o : Option ℕ) → IsReason s t last g kept a o
      → LeadOn s t last g kept next → LeadOn s t last g (kept ++ a ∷ []) (next ++ o ∷ [])
  leads_push kept next a o why before = record {
    count = omega (arith, before.count, length-append kept (a ∷ []), length-append next (o ∷ []));
    each = λ i x r at_x at_r. elim (pushed_at kept a x i at_x) [
      | inl e ↦ elim (pushed_at next o r i at_r) [
        | inl f ↦ subst (LeadsOn s t last g (kept ++ a ∷ []) i x) f.1
            (subst (λ z. LeadsOn s t last g (kept ++ a ∷ []) i z o) e.1 (here i e.0 o why))
        | inr k ↦ absurd (omega (arith, slice_get_within next i r k, e.0, before.count))
      ]
      | inr h ↦ elim (pushed_at next o r i at_r) [
        | inl f ↦ absurd (omega (arith, slice_get_within kept i x h, f.0, before.count))
        | inr k ↦ still kept (a ∷ []) i x r (before.each i x r h k)
      ]
    ];
  }
    where
      here : (i : ℕ) → i ≡ length kept → (o : Option ℕ) → IsReason s t last g kept a o
          → LeadsOn s t last g (kept ++ a ∷ []) i a o
      here i is None why = why
      here i is (Some j) why =
          let within = slice_get_within kept j why.0 why.1 in
          (omega (arith, is, within), (why.0, slice_get-left kept (a ∷ []) j why.0 why.1, why.2))

  module _ (kept : List Link) (next : List (Option ℕ)) (leads : LeadOn s t last g kept next) where
    -- each step links to an earlier one
    pub go_back : GoBack kept next
    go_back = record {
      count = leads.count;
      earlier = λ i j to.
          let a = at_of kept i (omega (arith, slice_get_within next i (Some j) to, leads.count)) in
          (leads.each i a.0 (Some j) a.1 to).0;
    }

    -- the steps behind one are linked
    pub behind_linked : (i : ℕ) (a : Link) (links : List Link) → slice_get kept i ≡ Some a → AreBehind kept next i links
        → AreLinked s t last g a links
    behind_linked i a [] at to = leads.each i a None at to
    behind_linked i a (b ∷ links) at (j, to, there, h) =
        let r = leads.each i a (Some j) at to in
        let found = r.1.1 in
        let same : r.1.0 ≡ b = cc in
        (subst (λ z. LinksTo s t g a z) same r.1.2, behind_linked j b links there h)

    -- so those from the lock at the entry on are its chain
    pub entry_chain : (l : Lock) (links : List Link) → AreFromEntry kept next l links → IsChain s t last g l links
    entry_chain l [] h = h.2
    entry_chain l (a ∷ links) (i, entry, (at, h)) =
        let same : a ≡ link 0 l = cc in
        (same, behind_linked i a links at h)

-- the steps so far, from the one at the start on, lead to the one at an index
abbrev pub LeadTo : List Link → List (Option ℕ) → ℕ → List Link → ℕ → Type 0
LeadTo kept next start links i = (rest : List Link) → AreFrom kept next i rest → AreFrom kept next start (links ++ rest)

-- they go on by the step to which that one links
pub lead_next : (kept : List Link) (next : List (Option ℕ)) (start : ℕ) (links : List Link) (i j : ℕ) (a : Link)
    → slice_get kept i ≡ Some a → slice_get next i ≡ Some (Some j)
    → LeadTo kept next start links i → LeadTo kept next start (links ++ a ∷ []) j
lead_next kept next start links i j a at to so_far [] h = absurd h
lead_next kept next start links i j a at to so_far (b ∷ rest) (there, h) =
    subst (AreFrom kept next start) (sym (append_assoc links (a ∷ []) (b ∷ rest)))
    (so_far (a ∷ b ∷ rest) (at, (j, to, there, h)))
