-- What is asked of a node whose text is to be read back: its numbers have 16 bits, its integers 63, and its fields are
-- those of the records to which locals and globals refer.
use Rattle.std.specs.Prelude.{◌≡◌, ◌<◌, ℕ, ⊤, length, Some}
use Rattle.sect_types.specs.Programs.{ProgramView, environment_at}
use Rattle.sect_names.specs.Locks.{IsField}
use Rattle.sect_types.specs.Sound.{type_at}
use Rattle.sect_types.specs.declared.expansion.action.Field.{Field}
use Rattle.sect_types.specs.declared.expansion.action.Value.{Value}
use Rattle.sect_types.specs.declared.expansion.action.Base.{Base}
use Rattle.sect_c.specs.declared.context.Member.{Member}
use Rattle.sect_types.specs.declared.declarations.types.ValueType.TheVariants.{Refers}
use Rattle.sect_types.specs.declared.expansion.action.Action.{Action}
use Rattle.sect_types.specs.declared.expansion.action.Action.TheVariants.{Assign, Compute, New, Load, Store, Print}
use Rattle.sect_types.specs.declared.expansion.action.Label.{Label}
use Rattle.sect_types.specs.declared.expansion.action.Label.TheVariants.{Act, Test, Section}
use Rattle.sect_graph.specs.declared.flow.Node.{Node}
use Rattle.sect_graph.specs.declared.flow.Successors.{Successors}
use Rattle.sect_graph.specs.declared.flow.Successors.TheVariants.{Next, Branch}
use Rattle.sect_types.specs.declared.expansion.action.Value.TheVariants as value
use Rattle.sect_types.specs.declared.expansion.action.Base.TheVariants as base

abbrev pub member : Base → Field → Member
member b f = record { base = b; field = f }

-- numbers of locals have 16 bits, and integers 63
abbrev pub FitsValue : ProgramView → Value → Type 0
FitsValue p (value.Number n) = n < 9223372036854775808
FitsValue p value.Null = ⊤
FitsValue p (value.Local x) = x < 65536
FitsValue p (value.Global g) = g < length p.globals

abbrev pub FitsBase : ProgramView → Base → Type 0
FitsBase p (base.Local x) = x < 65536
FitsBase p (base.Global g) = g < length p.globals

-- the field is one of the record to whose objects the base refers
pub record FitsMember (p : ProgramView) (u : ℕ) (m : Member) : Type 0 where
  pub base : FitsBase p m.base
  pub refers : type_at (environment_at p u) m.base ≡ Some (Refers m.field.of)
  pub field : IsField p m.field

abbrev pub FitsAction : ProgramView → ℕ → Action → Type 0
FitsAction p u (Assign x v) = (x < 65536) × FitsValue p v
FitsAction p u (Compute x v o w) = (x < 65536) × FitsValue p v × FitsValue p w
FitsAction p u (New x r site) = (x < 65536) × (r < 65536)
FitsAction p u (Load x b f) = (x < 65536) × FitsMember p u (member b f)
FitsAction p u (Store b f v) = FitsMember p u (member b f) × FitsValue p v
FitsAction p u (Print v) = FitsValue p v

-- numbers of sections and of nodes have 16 bits
abbrev pub FitsLabel : ProgramView → ℕ → Label → Type 0
FitsLabel p u (Act a) = FitsAction p u a
FitsLabel p u (Test c) = FitsValue p c.left × FitsValue p c.right
FitsLabel p u (Section i) = i < 65536

abbrev pub FitsNext : Successors → Type 0
FitsNext (Next n) = n < 65536
FitsNext (Branch n m) = (n < 65536) × (m < 65536)

pub record FitsNode (p : ProgramView) (u : ℕ) (x : Node) : Type 0 where
  pub label : FitsLabel p u x.label
  pub next : FitsNext x.next
