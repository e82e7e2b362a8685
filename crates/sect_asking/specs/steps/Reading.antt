-- What a rule of the grammar passes.
use Rattle.std.specs.Prelude.{◌≡◌, ℕ, ◌<◌, ◌≤◌, List, Option, Some, None, ⊤, length}
use Rattle.sect_asking.specs.{Phrases.{Spot, AreStanding, sign_spot, operator_sign}}
use Rattle.sect_front.specs.declared.tree.Operator.{Operator}
use Rattle.sect_front.specs.declared.tree.Operator.TheVariants as operator

-- what is left of a question behind the gap before it, and how many operators may still stand in it
pub record CursorView : Type 0 where
  pub here : List ℕ
  pub spare : ℕ

-- these marks are passed, at least one: whatever follows them here, follows them there
pub record Reads (spots : List Spot → List Spot) (here there : List ℕ) : Type 0 where
  pub marks : (w : List Spot) (end : List ℕ) → AreStanding there w end → AreStanding here (spots w) end
  pub shorter : length there < length here

-- the same, or none
pub record Goes (spots : List Spot → List Spot) (here there : List ℕ) : Type 0 where
  pub marks : (w : List Spot) (end : List ℕ) → AreStanding there w end → AreStanding here (spots w) end
  pub shorter : length there ≤ length here

-- the sign of the operator is passed, if there is one
abbrev pub ReadsOperator : Option Operator → List ℕ → List ℕ → Type 0
ReadsOperator None here there = here ≡ there
ReadsOperator (Some o) here there = Reads (sign_spot (operator_sign o)) here there

-- the operator, if there is one, is `+` or `-`
abbrev pub IsAdding : Option Operator → Type 0
IsAdding None = ⊤
IsAdding (Some operator.Add) = ⊤
IsAdding (Some operator.Subtract) = ⊤
IsAdding (Some operator.Multiply) = ⊥
