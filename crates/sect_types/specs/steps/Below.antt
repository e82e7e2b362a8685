-- Statements whose locals have small numbers.
use Rattle.std.specs.Prelude.{◌<◌, ℕ, ⊤}
use Rattle.sect_types.specs.{declared.expansion.action.Base.{Base}, declared.expansion.action.Value.{Value}}
use Rattle.sect_types.specs.{declared.expansion.action.Condition.{Condition}, declared.expansion.action.Action.{Action}}
use Rattle.sect_types.specs.declared.expansion.action.Base.TheVariants as base
use Rattle.sect_types.specs.declared.expansion.action.Value.TheVariants as value
use Rattle.sect_types.specs.declared.expansion.action.Action.TheVariants as action

abbrev pub IsValueBelow : ℕ → Value → Type 0
IsValueBelow n (value.Number m) = ⊤
IsValueBelow n value.Null = ⊤
IsValueBelow n (value.Local i) = i < n
IsValueBelow n (value.Global g) = ⊤

abbrev pub IsBaseBelow : ℕ → Base → Type 0
IsBaseBelow n (base.Local i) = i < n
IsBaseBelow n (base.Global g) = ⊤

abbrev pub IsActionBelow : ℕ → Action → Type 0
IsActionBelow n (action.Assign x v) = (x < n) × IsValueBelow n v
IsActionBelow n (action.Compute x v o w) = (x < n) × IsValueBelow n v × IsValueBelow n w
IsActionBelow n (action.New x r site) = x < n
IsActionBelow n (action.Load x b f) = (x < n) × IsBaseBelow n b
IsActionBelow n (action.Store b f v) = IsBaseBelow n b × IsValueBelow n v
IsActionBelow n (action.Print v) = IsValueBelow n v

abbrev pub IsConditionBelow : ℕ → Condition → Type 0
IsConditionBelow n c = IsValueBelow n c.left × IsValueBelow n c.right
