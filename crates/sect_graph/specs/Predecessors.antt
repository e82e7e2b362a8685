-- The nodes from which control may go on to a node.
use Rattle.std.specs.Prelude.{◌≡◌, ◌↔◌, ◌⊎◌, ◌<◌, ◌≤◌, ◌+◌, ℕ, List, [], Some, length, slice_get, slice_index_or}
use Rattle.sect_lemmas.specs.Lists.{Has}
use Rattle.sect_graph.specs.{declared.flow.Node.{Node}, Paths.{LeadsTo}}

-- control goes on from a node to a node or to the exit
abbrev pub StaysWithin : List Node → Type 0
StaysWithin g = (i j : ℕ) (x : Node) → slice_get g i ≡ Some x → LeadsTo x j → j ≤ length g

-- these are the nodes from which control may go on to node m
abbrev pub AreBefore : List Node → ℕ → List ℕ → Type 0
AreBefore g m before = (i : ℕ) → Has before i ↔ ((y : Node) × (slice_get g i ≡ Some y) × LeadsTo y m)

-- each number is below those that follow it
abbrev pub IsAscending : List ℕ → Type 0
IsAscending ns = (i j m n : ℕ) → i < j → slice_get ns i ≡ Some m → slice_get ns j ≡ Some n → m < n

-- a list of them for each node, and for the exit, in order
pub record AreAllBefore (g : List Node) (lists : List (List ℕ)) : Type 0 where
  pub count : length lists ≡ length g + 1
  pub each : (m : ℕ) → m ≤ length g → AreBefore g m (slice_index_or lists m [])
  pub ascending : (m : ℕ) → IsAscending (slice_index_or lists m [])

-- of these lists the one at that place has one element more
abbrev pub IsAdded : {X : Type 0} → List (List X) → List (List X) → ℕ → X → Type 0
IsAdded {X} old new to x =
    (m : ℕ) → m < length old → (y : X)
    → Has (slice_index_or new m []) y ↔ (Has (slice_index_or old m []) y ⊎ ((m ≡ to) × (y ≡ x)))
