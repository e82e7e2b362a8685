-- The nodes of a section, and the locks that are needed and generated there.
use Rattle.std.proofs.Common.{◌≡◌, ◌↔◌, ℕ, List, Option, Some, refl, sym, ap, ◌∙◌, subst, inl, inr}
use Rattle.std.proofs.lemmas.Option.{get_or_from_slice_get}
use Rattle.std.specs.Prelude.{slice_get}
use Rattle.sect_front.specs.declared.tree.Locking.{Locking}
use Rattle.sect_lemmas.specs.Lists.{Has}
use Rattle.sect_types.specs.{Sections.{SectionView, sections_of}, declared.expansion.action.Label.{Label}}
use Rattle.sect_graph.specs.{declared.flow.Node.{Node}, Layout.{flow_nodes}}
use Rattle.sect_infer.specs.Sets.{LocksView, AreNeeded, AreInferredAt}
use Rattle.sect_names.specs.{declared.lock.Lock.{Lock}, Carrying.{Generated}, Chains.{link, IsGeneratedAt}}
use Rattle.sect_names.specs.{Laws.{IsSoundStep, StandsIn}, Locks.{IsLockOf}, Needed.{end_of, end_locks}}
use Rattle.sect_names.specs.Printing.{IsNamed, AreNamed}
use Rattle.sect_names.proofs.shared.Named.{named_lock}
use Rattle.sect_emit.specs.{Compiled.{CompiledView, IsCompiled}, Explaining.{section_at}}
use Rattle.sect_emit.proofs.Explained.{section_here}
use Rattle.sect_emit.proofs.shared.Graphed.{section_graph}
use Rattle.sect_front.specs.declared.tree.Locking.TheVariants as locking

-- what the end of a section generates names nothing
end_named : (p : CompiledView) (how : Locking) (l : Lock) → Has (end_locks how) l → IsNamed p.scheme.program l
end_named p locking.Inferred l has = absurd has
end_named p locking.All l has = elim has [
  | inl is ↦ subst (IsNamed p.scheme.program) is tt
  | inr none ↦ absurd none
]

module _ (v : CompiledView) (compiled : IsCompiled v) (i : ℕ) (s : SectionView)
    (at : slice_get (sections_of v.scheme.program.texts) i ≡ Some s) (g : List Node)
    (there : slice_get v.scheme.graphs.sections i ≡ Some g) where
  graph : g ≡ flow_nodes s.body
  graph = section_graph v compiled v.scheme.graphs refl i s g at there

  pub flow_here : g ≡ flow_nodes (section_at v i).body
  flow_here = graph ∙ ap (λ (x : SectionView). flow_nodes x.body) (sym (section_here v i s at))

  pub needed_here : (locks : LocksView) → AreInferredAt v.scheme i locks
      → AreNeeded v.scheme (section_at v i).thread (end_of v.scheme i) (section_at v i).body
      (flow_nodes (section_at v i).body) locks.at
  needed_here locks inferred =
      subst (λ (x : SectionView). AreNeeded v.scheme x.thread (end_of v.scheme i) x.body (flow_nodes x.body) locks.at)
      (sym (section_here v i s at))
      (subst (λ h. AreNeeded v.scheme s.thread (end_of v.scheme i) s.body h locks.at) graph
      (inferred s g at there).0.needed)

  pub locks_named : (locks : LocksView) → AreInferredAt v.scheme i locks → (n : ℕ) (list : List Lock)
      → slice_get locks.at n ≡ Some list → AreNamed v.scheme.program list
  locks_named locks inferred n list here l has =
      named_lock v.scheme s.thread l ((inferred s g at there).1 n list here l has)

  module _ (how : Locking) (lockings : slice_get v.scheme.program.lockings i ≡ Some how) where
    end_here : end_locks how ≡ end_of v.scheme i
    end_here = ap end_locks (sym (get_or_from_slice_get v.scheme.program.lockings i how locking.Inferred lockings))

    pub generated_here : (n : ℕ) (own : Option Lock)
        → ((l : Lock) → (own ≡ Some l) ↔ IsGeneratedAt v.scheme s.thread (end_locks how) g (link n l))
        → (l : Lock) → (own ≡ Some l) ↔ IsGeneratedAt v.scheme (section_at v i).thread (end_of v.scheme i)
        (flow_nodes (section_at v i).body) (link n l)
    generated_here n own generated =
        subst (λ (x : SectionView). (l : Lock) → (own ≡ Some l)
        ↔ IsGeneratedAt v.scheme x.thread (end_of v.scheme i) (flow_nodes x.body) (link n l))
        (sym (section_here v i s at))
        (subst (λ h. (l : Lock) → (own ≡ Some l) ↔ IsGeneratedAt v.scheme s.thread (end_of v.scheme i) h
        (link n l)) graph
        (subst (λ e. (l : Lock) → (own ≡ Some l) ↔ IsGeneratedAt v.scheme s.thread e g (link n l)) end_here generated))

    -- what a node generates names what is there
    pub own_named : ((of : SectionView) (x : Node) → StandsIn v.scheme of x
        → IsSoundStep v.scheme.program of.thread x.label)
        → ((t : ℕ) (step : Label) → IsSoundStep v.scheme.program t step → (l : Lock) → Generated v.scheme t step l
        → IsLockOf v.scheme t l)
        → (n : ℕ) (l : Lock) → IsGeneratedAt v.scheme s.thread (end_locks how) g (link n l)
        → IsNamed v.scheme.program l
    own_named sound lawful n l own = elim own [
      | inl x ↦ named_lock v.scheme s.thread l
          (lawful s.thread x.0.label (sound s x.0 (i, g, n, at, there, x.1)) l x.2)
      | inr e ↦ end_named v how l e.1
    ]
