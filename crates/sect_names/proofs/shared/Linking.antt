-- Steps that are linked, one after another.
use Rattle.std.proofs.Common.{◌≡◌, ℕ, List, [], ◌∷◌, length, refl, sym, ap, ◌∙◌, subst, inl, inr}
use Rattle.std.proofs.lemmas.Option.{slice_get_within}
use Rattle.sect_types.specs.Traces.{Visit, visit}
use Rattle.sect_graph.specs.{declared.flow.Node.{Node}, Paths.{IsPath, IsConnected}}
use Rattle.sect_graph.proofs.shared.Paths.{path_begins}
use Rattle.sect_names.specs.{declared.link.Link.{Link}, declared.lock.Lock.{Lock}, Schemes.{SchemeView}}
use Rattle.sect_names.specs.{Chains.{link, AreLinked}, Needed.{GeneratedFirst, IsNeededOn}}

-- a step is its node with its lock
pub same_link : (x : Link) (j : ℕ) (l : Lock) → x.node ≡ j → x.lock ≡ l → x ≡ link j l
same_link x j l e f = ap (λ n. link n x.lock) e ∙ ap (link j) f

module _ (s : SchemeView) (t : ℕ) (last : List Lock) (g : List Node) where
  -- a lock from which steps lead on is needed along a path from its node to the exit
  pub linked_needed : IsConnected g → (x : Link) (links : List Link) → AreLinked s t last g x links
      → (steps : List Visit) × IsPath g x.node steps (length g) × IsNeededOn s t last steps x.lock
  linked_needed con x [] (inl h) =
      let p = con.exits x.node (slice_get_within g x.node h.0 h.1) in
      let b = path_begins g x.node h.0 p.0 h.1 p.1 in
      (p.0, p.1, ([], p.0, x.lock, refl, subst (λ st. GeneratedFirst s t last st x.lock) (sym b.1) h.2, refl))
  linked_needed con x [] (inr h) = ([], h.0, ([], [], x.lock, refl, h.1, refl))
  linked_needed con x (b ∷ links) (c, h) =
      let q = linked_needed con b links h in
      let n = q.2 in
      let a = visit x.node c.0.label in (
        a ∷ q.0,
        (c.0, c.1, refl, b.node, c.2, q.1),
        (a ∷ n.0, n.1, n.2, ap (λ l. a ∷ l) n.3, n.4, (b.lock, n.5, c.3)),
      )
