-- The locks that are found for a section's graph, before what is found is told of the traces.
use Rattle.std.specs.Prelude.{◌≡◌, ℕ, ◌+◌, List, Some, slice_get, length}
use Rattle.sect_graph.specs.declared.flow.Node.{Node}
use Rattle.sect_names.specs.{declared.lock.Lock.{Lock}, Schemes.{SchemeView}, Order.{AreMaximal}}
use Rattle.sect_infer.specs.Sets.{LocksView}
use Rattle.sect_infer.specs.steps.Needs.{need, IsDerived}
use Rattle.sect_names.specs.declared.lock.Lock.TheVariants as lock

-- at each node, the exit too, the maximal ones of the locks that are derived there
pub record AreFound (s : SchemeView) (t : ℕ) (g : List Node) (at : List (List Lock)) : Type 0 where
  pub count : length at ≡ length g + 1
  pub each : (j : ℕ) (locks : List Lock) → slice_get at j ≡ Some locks
      → AreMaximal s (λ l. IsDerived s t g (need j l)) locks

-- so many lists, each with the lock on all alone
pub record AreAllOnAll (s : SchemeView) (count : ℕ) (at : List (List Lock)) : Type 0 where
  pub counted : length at ≡ count
  pub each : (j : ℕ) (locks : List Lock) → slice_get at j ≡ Some locks → AreMaximal s (λ l. l ≡ lock.All) locks

-- the locks of a section of which those at its nodes are found so
pub record IsFound (s : SchemeView) (t : ℕ) (g : List Node) (locks : LocksView) : Type 0 where
  pub found : AreFound s t g locks.at
  pub first : slice_get locks.at 0 ≡ Some locks.entry

-- the locks of a section with so many nodes, of which each needs the lock on all
pub record IsOnAll (s : SchemeView) (count : ℕ) (locks : LocksView) : Type 0 where
  pub all : AreAllOnAll s count locks.at
  pub first : slice_get locks.at 0 ≡ Some locks.entry

-- the maximal ones of the locks that are derived at the first node
abbrev pub AreFirstFound : SchemeView → ℕ → List Node → List Lock → Type 0
AreFirstFound s t g = AreMaximal s (λ l. IsDerived s t g (need 0 l))
