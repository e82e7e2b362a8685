-- What holds of sections that exclude each other, and of those that don't. The laws of this crate cite it.
use Rattle.std.specs.Prelude.{◌≡◌, ◌↔◌, ℕ, List, [], Some, slice_get}
use Rattle.sect_lemmas.specs.Lists.{Has}
use Rattle.sect_types.specs.{Sections.{SectionView, sections_of}, Store.{StoreView}, Meaning.{WorkView}}
use Rattle.sect_types.specs.{declared.meaning.store.ObjectName.{ObjectName}, declared.meaning.store.Datum.{Datum}}
use Rattle.sect_types.specs.declared.meaning.store.Datum.TheVariants.{Refers}
use Rattle.sect_modes.specs.declared.key.Key.{Key}
use Rattle.sect_emit.specs.{Plan.{path_datum}, Compiled.{CompiledView, program_of}, Pointed.{IsPointed, ObjectsStay}}
use Rattle.sect_emit.specs.State.{ThreadState, IsThread, plan_at, start}
use Rattle.sect_conflicts.specs.{declared.conflict.PathPair.{PathPair}, Conflicts.{Clash, AlwaysClash, MayGoTogether}}

-- section i is one of a thread that works so over this store
pub record IsSectionOver (c : CompiledView) (i : ℕ) (store : StoreView) (w : WorkView) : Type 0 where
  pub section : SectionView
  pub at : slice_get (sections_of (program_of c).texts) i ≡ Some section
  pub pointed : IsPointed c.scheme section.thread store w

-- both paths denote one object, each over its store for a thread with its locals
abbrev pub Meets : StoreView → StoreView → List Datum → List Datum → PathPair → Type 0
Meets store after mine theirs pair =
    (o : ObjectName) × (path_datum store mine pair.first ≡ Refers o) × (path_datum after theirs pair.second ≡ Refers o)

-- where two sections ask for a key in every state, in modes that aren't compatible, their plans clash, though each is
-- made in another state
abbrev pub PlansAlwaysClash : CompiledView → Type 0
PlansAlwaysClash c =
    (i j : ℕ) (k : Key) → AlwaysClash c i j k → (store after : StoreView) (mine theirs : List Datum)
    → Clash (plan_at c i store mine) (plan_at c j after theirs)

-- else their plans clash exactly where some pair of the paths denotes one object, each as its plan is made, in two
-- states of a run: what exists in both exists in some state now
abbrev pub PlansClashWherePathsMeet : CompiledView → Type 0
PlansClashWherePathsMeet c =
    (i j : ℕ) (pairs : List PathPair) → MayGoTogether c i j pairs → (store after now : StoreView) (w v : WorkView)
    → IsSectionOver c i store w → IsSectionOver c j after v → ObjectsStay store now → ObjectsStay after now
    → Clash (plan_at c i store w.locals) (plan_at c j after v.locals)
    ↔ ((pair : PathPair) × Has pairs pair × Meets store after w.locals v.locals pair)

-- where there is no such pair, their plans don't clash
abbrev pub PlansNeverClash : CompiledView → Type 0
PlansNeverClash c =
    (i j : ℕ) → MayGoTogether c i j [] → (store after now : StoreView) (w v : WorkView)
    → IsSectionOver c i store w → IsSectionOver c j after v → ObjectsStay store now → ObjectsStay after now
    → Clash (plan_at c i store w.locals) (plan_at c j after v.locals) → ⊥

-- and where two sections aren't said to exclude each other in every state, their plans don't clash at the start
abbrev pub PlansGoTogetherAtTheStart : CompiledView → Type 0
PlansGoTogetherAtTheStart c =
    (i j : ℕ) (pairs : List PathPair) → MayGoTogether c i j pairs → (fuel t u : ℕ) (th other : ThreadState)
    → IsThread (start c fuel) t th → IsThread (start c fuel) u other
    → Clash (plan_at c i (start c fuel).store th.frame.work.locals)
    (plan_at c j (start c fuel).store other.frame.work.locals) → ⊥
