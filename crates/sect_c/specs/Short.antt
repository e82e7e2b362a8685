-- Texts whose integers and whose sections' numbers are short.
use Rattle.std.specs.Prelude.{◌<◌, ⊤}
use Rattle.sect_types.specs.{declared.expansion.action.Value.{Value}}
use Rattle.sect_types.specs.{declared.expansion.action.Action.{Action}}
use Rattle.sect_types.specs.declared.expansion.action.Action.TheVariants.{Assign, Compute, New, Load, Store, Print}
use Rattle.sect_types.specs.Statements.{TextView, Stop, Do, Choose, Loop, Section}
use Rattle.sect_types.specs.declared.expansion.action.Value.TheVariants as value

abbrev pub IsShort : Value → Type 0
IsShort (value.Number n) = n < 9223372036854775808
IsShort value.Null = ⊤
IsShort (value.Local x) = ⊤
IsShort (value.Global g) = ⊤

abbrev pub HasShort : Action → Type 0
HasShort (Assign x v) = IsShort v
HasShort (Compute x v o w) = IsShort v × IsShort w
HasShort (New x r site) = ⊤
HasShort (Load x b f) = ⊤
HasShort (Store b f v) = IsShort v
HasShort (Print v) = IsShort v

-- integers have 63 bits, and numbers of sections 16
abbrev pub AreShort : TextView → Type 0
AreShort Stop = ⊤
AreShort (Do a k) = HasShort a × AreShort k
AreShort (Choose c a b k) = IsShort c.left × IsShort c.right × AreShort a × AreShort b × AreShort k
AreShort (Loop c a k) = IsShort c.left × IsShort c.right × AreShort a × AreShort k
AreShort (Section i a k) = (i < 65536) × AreShort a × AreShort k
