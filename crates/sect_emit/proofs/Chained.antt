-- What the chains of a section name is there.
use Rattle.std.proofs.Common.{◌≡◌, ◌≢◌, ℕ, List, [], ◌∷◌, Some, subst, inl, inr}
use Rattle.std.specs.Prelude.{slice_get}
use Rattle.sect_lemmas.specs.Lists.{Has}
use Rattle.sect_types.specs.{Sections.{SectionView, sections_of}, declared.expansion.action.Label.{Label}}
use Rattle.sect_graph.specs.declared.flow.Node.{Node}
use Rattle.sect_names.specs.{declared.link.Link.{Link}, declared.lock.Lock.{Lock}, Schemes.{SchemeView}}
use Rattle.sect_names.specs.{Locks.{IsLockOf}, Chains.{AreLinked, IsChain}, Carrying.{Generated, CarriedBack}}
use Rattle.sect_names.specs.{Laws.{IsSoundStep, StandsIn, AreLawful}, Needed.{end_of}}
use Rattle.sect_names.proofs.shared.{Named.{named_lock}, Ends.{ended_lawful}}
use Rattle.sect_chains.specs.Chains.{AreChains}
use Rattle.sect_emit.specs.Words.{IsChainNamed}

module _ (s : SchemeView) (t : ℕ) (last : List Lock) (g : List Node) (lawful : AreLawful s t last g) where
  -- the locks of steps that are linked are the program's
  linked_lawful : (a : Link) (links : List Link) → AreLinked s t last g a links
      → IsLockOf s t a.lock × ((b : Link) → Has links b → IsLockOf s t b.lock)
  linked_lawful a [] h = (
    elim h [ inl x ↦ lawful.generated a.node x.0 x.1 a.lock x.2 | inr e ↦ lawful.ended a.lock e.1 ],
    λ b none. absurd none,
  )
  linked_lawful a (b ∷ links) h =
      let rest = linked_lawful b links h.1 in
      let to = h.0 in (
        lawful.carried a.node to.0 to.1 b.lock a.lock rest.0 to.3,
        λ x has. elim has [ inl e ↦ subst (λ (y : Link). IsLockOf s t y.lock) e rest.0 | inr k ↦ rest.1 x k ],
      )

  -- so are those of a chain, which has one
  chain_lawful : (l : Lock) (links : List Link) → IsChain s t last g l links
      → (links ≢ []) × ((a : Link) → Has links a → IsLockOf s t a.lock)
  chain_lawful l [] h = absurd h
  chain_lawful l (a ∷ links) h =
      let all = linked_lawful a links h.1 in
      (λ e. cc, λ b has. elim has [ inl e ↦ subst (λ (y : Link). IsLockOf s t y.lock) e all.0 | inr k ↦ all.1 b k ])

  -- and those of each chain
  pub chains_lawful : (locks : List Lock) (chains : List (List Link)) → AreChains s t last g locks chains
      → (links : List Link) → Has chains links
      → (links ≢ []) × ((a : Link) → Has links a → IsLockOf s t a.lock)
  chains_lawful [] [] h links has = absurd has
  chains_lawful [] (c ∷ cs) h links has = absurd h
  chains_lawful (l ∷ ls) [] h links has = absurd h
  chains_lawful (l ∷ ls) (c ∷ cs) h links has = elim has [
    | inl e ↦ subst (λ (k : List Link). (k ≢ []) × ((a : Link) → Has k a → IsLockOf s t a.lock)) e
        (chain_lawful l c h.0.is)
    | inr k ↦ chains_lawful ls cs h.1 links k
  ]

  -- what the steps of each chain name is there
  pub chains_named : (locks : List Lock) (chains : List (List Link)) → AreChains s t last g locks chains
      → (links : List Link) → Has chains links → IsChainNamed s.program links
  chains_named locks chains h links has =
      let all = chains_lawful locks chains h links has in
      (all.0, λ a there. named_lock s t a.lock (all.1 a there))

-- what the nodes of a section and its end generate, and what the nodes carry back, are locks of the program
pub section_lawful : (s : SchemeView)
    → (generated : (t : ℕ) (step : Label) → IsSoundStep s.program t step → (l : Lock) → Generated s t step l
    → IsLockOf s t l)
    → (carried : (t : ℕ) (step : Label) → IsSoundStep s.program t step → (l r : Lock) → IsLockOf s t l
    → CarriedBack s t step l r → IsLockOf s t r)
    → (sound : (of : SectionView) (x : Node) → StandsIn s of x → IsSoundStep s.program of.thread x.label)
    → (i : ℕ) (of : SectionView) (g : List Node) → slice_get (sections_of s.program.texts) i ≡ Some of
    → slice_get s.graphs.sections i ≡ Some g → AreLawful s of.thread (end_of s i) g
section_lawful s generated carried sound i of g at graph =
    let step : (j : ℕ) (y : Node) → slice_get g j ≡ Some y → IsSoundStep s.program of.thread y.label =
    λ j y there. sound of y (i, g, j, at, graph, there) in
    record {
      generated = λ j y there. generated of.thread y.label (step j y there);
      ended = ended_lawful s of.thread i;
      carried = λ j y there. carried of.thread y.label (step j y there);
    }
