-- What is derived over the graph is what the traces need.
use Rattle.std.proofs.Common.{◌≡◌, ◌↔◌, ℕ, zero, suc, ◌≤◌, List, [], ◌∷◌, ◌++◌, length, refl, sym, ap, subst}
use Rattle.std.proofs.lemmas.Option.{slice_get_within}
use Rattle.sect_types.specs.{Statements.{TextView}, Traces.{Visit, visit}}
use Rattle.sect_graph.specs.{declared.flow.Node.{Node}, Paths.{IsPath, IsConnected}, Graphs.{IsGraphOf}}
use Rattle.sect_names.specs.{declared.lock.Lock.{Lock}, Schemes.{SchemeView}, Carrying.{Generated, CarriedBack}}
use Rattle.sect_names.specs.Needed.{CarriedOver, GeneratedFirst, IsNeededOn, IsNeededFrom}
use Rattle.sect_infer.specs.steps.Needs.{Need, need, Derived, IsDerived}
use Rattle.sect_graph.proofs.shared.Paths.{path_begins}

module _ (s : SchemeView) (t : ℕ) (g : List Node) where
  -- needed along some path from the node to the exit
  abbrev pub IsNeededAlong : ℕ → Lock → Type 0
  IsNeededAlong j l = (steps : List Visit) × IsPath g j steps (length g) × IsNeededOn s t [] steps l

  derived_along : IsConnected g → (k : ℕ) (x : Need) → Derived s t g k x → IsNeededAlong x.node x.lock
  derived_along con zero x h =
      let p = con.exits x.node (slice_get_within g x.node h.0 h.1) in
      let b = path_begins g x.node h.0 p.0 h.1 p.1 in
      (p.0, p.1, ([], p.0, x.lock, refl, subst (λ st. GeneratedFirst s t [] st x.lock) (sym b.1) h.2, refl))
  derived_along con (suc k) x h =
      let c = h.2 in
      let q = derived_along con k h.0 h.1 in
      let n = q.2 in
      let a = visit x.node c.0.label in (
        a ∷ q.0,
        (c.0, c.1, refl, h.0.node, c.2, q.1),
        (a ∷ n.0, n.1, n.2, ap (λ l. a ∷ l) n.3, n.4, (h.0.lock, n.5, c.3)),
      )

  along_derived : (before : List Visit) (j : ℕ) (steps rest : List Visit) (x l : Lock) → IsPath g j steps (length g)
      → steps ≡ before ++ rest → GeneratedFirst s t [] rest x → CarriedOver s t before x l → IsDerived s t g (need j l)
  along_derived [] j steps [] x l p e h c = absurd h
  along_derived [] j steps (a ∷ rest) x l p e h c =
      let q = subst (λ z. IsPath g j z (length g)) e p in
      let label = ap (λ z. z.label) q.2 in
      (0, (q.0, q.1, subst (λ b. Generated s t b l) label (subst (Generated s t a.label) c h)))
  along_derived (b ∷ before) j steps rest x l p e h c =
      let q = subst (λ z. IsPath g j z (length g)) e p in
      let label = ap (λ z. z.label) q.2 in
      let r = along_derived before q.3 (before ++ rest) rest x c.0 q.5 refl h c.1 in
      (suc r.0, (need q.3 c.0, r.1, (q.0, q.1, q.4, subst (λ a. CarriedBack s t a c.0 l) label c.2)))

  -- derived at a node: needed along some path from there
  pub derived_means : IsConnected g → (j : ℕ) (l : Lock) → IsDerived s t g (need j l) ↔ IsNeededAlong j l
  derived_means con j l = (
    λ h. derived_along con h.0 (need j l) h.1,
    λ h. (let n = h.2 in along_derived n.0 j h.0 n.1 n.2 l h.1 n.3 n.4 n.5),
  )

  module _ (body : TextView) (graph : IsGraphOf body g) where
    -- the needs of a node are those of the rests of traces that begin there
    pub derived_from : (j : ℕ) (l : Lock) → j ≤ length g → IsDerived s t g (need j l) ↔ IsNeededFrom s t [] body g j l
    derived_from j l within =
        let means = derived_means graph.connected j l in (
          λ h. (let a = means.0 h in (a.0, (graph.rests j within a.0).0 a.1, a.2)),
          λ h. means.1 (h.0, (graph.rests j within h.0).1 h.1, h.2),
        )
