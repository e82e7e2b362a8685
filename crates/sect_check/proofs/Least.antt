-- What a valid certificate says of needed locks.
use Rattle.std.proofs.Common.{◌≡◌, ℕ, List, [], ◌∷◌, ◌++◌, Some, length, refl, ap, subst, arith, inl, inr}
use Rattle.std.proofs.lemmas.Option.{slice_get_within}
use Rattle.std.specs.Prelude.{slice_get}
use Rattle.sect_lemmas.specs.Lists.{Has}
use Rattle.sect_types.specs.{Sections.{SectionView, sections_of}, Traces.{Visit}}
use Rattle.sect_graph.specs.{declared.flow.Node.{Node}, Paths.{IsPath, IsConnected}}
use Rattle.sect_names.specs.{declared.lock.Lock.{Lock}, declared.link.Link.{Link}, Schemes.{SchemeView, IsScheme}}
use Rattle.sect_names.specs.{Locks.{CoveredBy}, Carrying.{Generated, CarriedBack}}
use Rattle.sect_names.specs.Needed.{CarriedOver, GeneratedFirst, IsNeededOn, IsLeast, end_of}
use Rattle.sect_names.specs.{Chains.{IsChain}, Laws.{RespectsCover}}
use Rattle.sect_names.proofs.shared.{Covering.{covers_trans}, Respecting.{respects_cover}, SectionSteps.{section_step}}
use Rattle.sect_names.proofs.shared.Linking.{linked_needed}
use Rattle.sect_cert.specs.declared.certificate.Cert.{Cert}
use Rattle.sect_check.specs.{declared.claims.Claims.{Claims}, Meaning.{IsSectionAt}}
use Rattle.sect_check.specs.Valid.{list_at, IsValidSection, IsValid, AreEntriesLeast}
use Rattle.sect_lemmas.proofs.Places.{Has-index, at_of}

module _ (s : SchemeView) (t : ℕ) (last : List Lock) (g : List Node) where
  -- a lock that has a chain is needed along a path from the entry to the exit
  chain_needed : IsConnected g → (l : Lock) (links : List Link) → IsChain s t last g l links
      → (steps : List Visit) × IsPath g 0 steps (length g) × IsNeededOn s t last steps l
  chain_needed con l [] h = absurd h
  chain_needed con l (a ∷ links) h =
      let n = linked_needed s t last g con a links h.1 in (
        n.0,
        subst (λ k. IsPath g k n.0 (length g)) (ap (λ z. z.node) h.0) n.1,
        subst (IsNeededOn s t last n.0) (ap (λ z. z.lock) h.0) n.2,
      )

  module _ (respects : (j : ℕ) (x : Node) → slice_get g j ≡ Some x → RespectsCover s t x.label) (c : Claims)
      (v : IsValidSection s t last g c) where
    -- what is needed along a path from a node to the exit is covered by the list of the node
    covered : (before : List Visit) (j : ℕ) (steps rest : List Visit) (x l : Lock) → IsPath g j steps (length g)
        → steps ≡ before ++ rest
        → GeneratedFirst s t last rest x → CarriedOver s t before x l → CoveredBy s (list_at c j) l
    covered [] j steps [] x l p e h k =
        let q = subst (λ z. IsPath g j z (length g)) e p in
        v.generated j l (inr (q, subst (Has last) k h))
    covered [] j steps (a ∷ rest) x l p e h k =
        let q = subst (λ z. IsPath g j z (length g)) e p in
        let label = ap (λ z. z.label) q.2 in
        v.generated j l (inl (q.0, q.1, subst (λ b. Generated s t b l) label (subst (Generated s t a.label) k h)))
    covered (b ∷ before) j steps rest x l p e h k =
        let q = subst (λ z. IsPath g j z (length g)) e p in
        let label = ap (λ z. z.label) q.2 in
        let over = covered before q.3 (before ++ rest) rest x k.0 q.5 refl h k.1 in
        let up = respects j q.0 q.1 k.0 over.0 l over.2 (subst (λ a. CarriedBack s t a k.0 l) label k.2) in
        let w = v.carried j q.3 q.0 q.1 q.4 over.0 up.0 over.1 up.1 in
        (w.0, w.1, covers_trans s w.0 up.0 l w.2 up.2)

-- the entry list of a valid section is least
section_least : (s : SchemeView) → IsScheme s → (i : ℕ) (of : SectionView) (g : List Node) (c : Claims)
    → IsSectionAt s i of g → IsValidSection s of.thread (end_of s i) g c
    → IsLeast s of.thread (end_of s i) of.body c.entry
section_least s scheme i of g c at v =
    let last = end_of s i in
    let graph = scheme.graphed.sections i of g at.0 at.1 in
    let respects : (j : ℕ) (x : Node) → slice_get g j ≡ Some x → RespectsCover s of.thread x.label
    = λ j x here. respects_cover s scheme of.thread x.label (section_step s scheme of x (i, g, j, at.0, at.1, here)) in
    record {
      protects = λ l n.
          let path = (graph.paths n.0).1 n.1 in
          let m = n.2 in
          let over = covered s of.thread last g respects c v m.0 0 n.0 m.1 m.2 l path m.3 m.4 m.5 in
          let w = v.entry over.0 over.1 in
          (w.0, w.1, covers_trans s w.0 over.0 l w.2 over.2);
      least = λ others protects l h.
          let k = Has-index c.entry l h in
          let chain = v.chains k.0 l k.1 in
          let n = chain_needed s of.thread last g graph.connected l chain.0.links chain.2 in
          protects l (n.0, (graph.paths n.0).0 n.1, n.2);
      apart = v.apart;
    }

-- the entry lists of a valid certificate are least
pub entries_least : (s : SchemeView) → IsScheme s → (a : Cert) → IsValid s a → AreEntriesLeast s a
entries_least s scheme a v i of at_of_section =
    let w = slice_get_within (sections_of s.program.texts) i of at_of_section in
    let x = at_of a.sections i (omega (arith, w, v.denoted.sections)) in
    let c = at_of v.claims i (omega (arith, w, v.denoted.sections, v.denoted.count)) in
    let g = at_of s.graphs.sections i (omega (arith, w, scheme.graphed.section_count)) in
    let at : IsSectionAt s i of g.0 = (at_of_section, g.1) in
    let right = v.each i of g.0 c.0 at c.1 in (
      x.0,
      x.1,
      (
        c.0.entry,
        (v.denoted.each i of g.0 x.0 c.0 at x.1 c.1).entry,
        section_least s scheme i of g.0 c.0 at right,
        right.in_order,
      ),
    )
