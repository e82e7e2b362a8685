-- Locks that are needed at the nodes of a section's graph, one from another.
use Rattle.std.specs.Prelude.{◌≡◌, ℕ, zero, suc, List, Some, slice_get}
use Rattle.sect_graph.specs.{declared.flow.Node.{Node}, Paths.{LeadsTo}, Predecessors.{StaysWithin}}
use Rattle.sect_names.specs.{declared.lock.Lock.{Lock}, Schemes.{SchemeView}, Locks.{IsLockOf}}
use Rattle.sect_names.specs.{Carrying.{Generated, CarriedBack}, Laws.{RespectsCover}}

-- a lock that is needed from a node on
pub record Need : Type 0 where
  pub node : ℕ
  pub lock : Lock

abbrev pub need : ℕ → Lock → Need
need j l = record { node = j; lock = l }

-- the node generates the lock
abbrev pub IsSeed : SchemeView → ℕ → List Node → Need → Type 0
IsSeed s t g x = (y : Node) × (slice_get g x.node ≡ Some y) × Generated s t y.label x.lock

-- control may go on from the one node to the other, and the lock that is needed there is carried back to this one
abbrev pub CarriesTo : SchemeView → ℕ → List Node → Need → Need → Type 0
CarriesTo s t g n x = (y : Node) × (slice_get g x.node ≡ Some y) × LeadsTo y n.node
    × CarriedBack s t y.label n.lock x.lock

-- it is carried back over so many edges
abbrev pub Derived : SchemeView → ℕ → List Node → ℕ → Need → Type 0
Derived s t g zero x = IsSeed s t g x
Derived s t g (suc k) x = (n : Need) × Derived s t g k n × CarriesTo s t g n x

abbrev pub IsDerived : SchemeView → ℕ → List Node → Need → Type 0
IsDerived s t g x = (k : ℕ) × Derived s t g k x

-- the locks that the nodes generate and carry back are the program's; what is carried back of a lock that covers
-- another
-- covers what is carried back of that; and control stays in the graph
pub record AreLawful (s : SchemeView) (t : ℕ) (g : List Node) : Type 0 where
  pub generated : (j : ℕ) (y : Node) → slice_get g j ≡ Some y → (l : Lock) → Generated s t y.label l → IsLockOf s t l
  pub carried : (j : ℕ) (y : Node) → slice_get g j ≡ Some y → (l r : Lock) → IsLockOf s t l
      → CarriedBack s t y.label l r → IsLockOf s t r
  pub respects : (j : ℕ) (y : Node) → slice_get g j ≡ Some y → RespectsCover s t y.label
  pub within : StaysWithin g
