-- What a statement or a test names is there. The private functions that print it cite this.
use Rattle.std.specs.{Prelude.{◌<◌, ⊤, ℕ, [], List, length, slice_index_or}, List.{AllByRecursion}}
use Rattle.sect_types.specs.{Programs.{ProgramView}, declared.expansion.action.Value.{Value}}
use Rattle.sect_types.specs.{declared.expansion.action.Base.{Base}, declared.expansion.action.Condition.{Condition}}
use Rattle.sect_types.specs.declared.expansion.action.Action.{Action}
use Rattle.sect_types.specs.declared.expansion.action.Action.TheVariants.{Assign, Compute, New, Load, Store, Print}
use Rattle.sect_types.specs.declared.expansion.action.Label.{Label}
use Rattle.sect_types.specs.declared.expansion.action.Label.TheVariants.{Act, Test, Section}
use Rattle.sect_graph.specs.declared.flow.Node.{Node}
use Rattle.sect_names.specs.Locks.{IsField}
use Rattle.sect_types.specs.declared.expansion.action.Value.TheVariants as value
use Rattle.sect_types.specs.declared.expansion.action.Base.TheVariants as base

abbrev pub IsLocalOf : ProgramView → ℕ → ℕ → Type 0
IsLocalOf p u x = x < length (slice_index_or p.locals u [])

abbrev pub IsValueOf : ProgramView → ℕ → Value → Type 0
IsValueOf p u (value.Number n) = ⊤
IsValueOf p u value.Null = ⊤
IsValueOf p u (value.Local x) = IsLocalOf p u x
IsValueOf p u (value.Global g) = g < length p.globals

abbrev pub IsBaseOf : ProgramView → ℕ → Base → Type 0
IsBaseOf p u (base.Global g) = g < length p.globals
IsBaseOf p u (base.Local x) = IsLocalOf p u x

abbrev pub IsActionOf : ProgramView → ℕ → Action → Type 0
IsActionOf p u (Assign x v) = IsLocalOf p u x × IsValueOf p u v
IsActionOf p u (Compute x v o w) = IsLocalOf p u x × IsValueOf p u v × IsValueOf p u w
IsActionOf p u (New x r site) = IsLocalOf p u x × (r < length p.records)
IsActionOf p u (Load x b f) = IsLocalOf p u x × IsBaseOf p u b × IsField p f
IsActionOf p u (Store b f v) = IsBaseOf p u b × IsField p f × IsValueOf p u v
IsActionOf p u (Print v) = IsValueOf p u v

abbrev pub IsConditionOf : ProgramView → ℕ → Condition → Type 0
IsConditionOf p u c = IsValueOf p u c.left × IsValueOf p u c.right

abbrev pub IsLabelOf : ProgramView → ℕ → Label → Type 0
IsLabelOf p u (Act a) = IsActionOf p u a
IsLabelOf p u (Test c) = IsConditionOf p u c
IsLabelOf p u (Section i) = ⊤

-- of each node
abbrev pub AreNodesOf : ProgramView → ℕ → List Node → Type 0
AreNodesOf p u g = AllByRecursion (λ x. IsLabelOf p u x.label) g
