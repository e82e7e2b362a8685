-- The paths of a control-flow graph.
use Rattle.std.specs.Prelude.{◌≡◌, ℕ, ◌<◌, ◌≤◌, List, [], ◌∷◌, ◌++◌, ◌⊎◌, Some, slice_get, length, ◌↔◌}
use Rattle.sect_types.specs.{declared.expansion.action.Label.{Label}, Statements.{TextView}}
use Rattle.sect_types.specs.Traces.{Visit, visit, IsTrace}
use Rattle.sect_graph.specs.{declared.flow.Node.{Node}, declared.flow.Successors.{Successors}}
use Rattle.sect_graph.specs.declared.flow.Successors.TheVariants.{Next, Branch}

abbrev pub node : Label → Successors → Node
node l next = record { label = l; next = next }

abbrev pub IsSuccessor : Successors → ℕ → Type 0
IsSuccessor (Next i) k = k ≡ i
IsSuccessor (Branch i j) k = (k ≡ i) ⊎ (k ≡ j)

-- control may go on from the node to node j
abbrev pub LeadsTo : Node → ℕ → Type 0
LeadsTo x j = IsSuccessor x.next j

-- a path from node i to node j does these steps
abbrev pub IsPath : List Node → ℕ → List Visit → ℕ → Type 0
IsPath g i [] j = i ≡ j
IsPath g i (s ∷ steps) j =
    (x : Node) × (slice_get g i ≡ Some x) × (s ≡ visit i x.label) × (m : ℕ) × LeadsTo x m × IsPath g m steps j

-- along the paths from the entry, node 0, to the exit, which is numbered last, stand exactly the traces
abbrev pub PathsAreTraces : TextView → List Node → Type 0
PathsAreTraces text g = (steps : List Visit) → IsPath g 0 steps (length g) ↔ IsTrace text 0 steps

-- the steps begin at node i; no steps begin at the exit
abbrev pub BeginsAt : List Node → ℕ → List Visit → Type 0
BeginsAt g i [] = i ≡ length g
BeginsAt g i (s ∷ steps) = i ≡ s.at

-- some trace ends so, from node i on
abbrev pub IsRestAt : TextView → List Node → ℕ → List Visit → Type 0
IsRestAt text g i rest = (before : List Visit) × IsTrace text 0 (before ++ rest) × BeginsAt g i rest

-- along the paths from node i to the exit stand exactly the rests of traces that begin there
abbrev pub PathsAreRests : TextView → List Node → Type 0
PathsAreRests text g = (i : ℕ) → i ≤ length g → (rest : List Visit)
    → IsPath g i rest (length g) ↔ IsRestAt text g i rest

-- each node is on a path from the entry to the exit
pub record IsConnected (g : List Node) : Type 0 where
  pub reached : (i : ℕ) → i < length g → (steps : List Visit) × IsPath g 0 steps i
  pub exits : (i : ℕ) → i < length g → (steps : List Visit) × IsPath g i steps (length g)
