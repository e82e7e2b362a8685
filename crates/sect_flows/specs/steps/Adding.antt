-- Locals at points that are added to those that are found. The private functions of `flowing` cite it.
use Rattle.std.specs.Prelude.{◌≡◌, ◌⊎◌, ◌↔◌, ◌++◌, ℕ, List, Some, slice_get}
use Rattle.sect_lemmas.specs.Lists.{Has}
use Rattle.sect_graph.specs.Graphs.{GraphView}
use Rattle.sect_flows.specs.{declared.point.LocalAt.{LocalAt}, declared.way.Way.{Way}}
use Rattle.sect_flows.specs.Flows.{Reaches, Passes, Flows, MayFlow, IsSetAt}

-- such locals are added at the end, and no others
pub record Adds (AreSuch : LocalAt → Type 0) (old new : List LocalAt) : Type 0 where
  pub grown : (more : List LocalAt) × (new ≡ old ++ more)
  pub each : (k : LocalAt) → Has new k ↔ (Has old k ⊎ AreSuch k)

-- what a way does with the value of local x
abbrev pub IsPassed : Way → ℕ → LocalAt → Type 0
IsPassed w x k = Reaches w k.point × Passes w.label x k.local

-- local x where a way leads
abbrev pub IsSet : Way → ℕ → LocalAt → Type 0
IsSet w x k = Reaches w k.point × (k.local ≡ x)

-- one step on from what stands at a place
abbrev pub IsNext : GraphView → ℕ → List LocalAt → ℕ → LocalAt → Type 0
IsNext g t found n k = (h : LocalAt) × (slice_get found n ≡ Some h) × Flows g t h k
