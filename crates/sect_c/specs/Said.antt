-- What lines say of statements.
use Rattle.std.specs.Prelude.{if◌then◌else◌}
use Rattle.sect_types.specs.declared.expansion.action.Action.{Action}
use Rattle.sect_types.specs.declared.expansion.action.Action.TheVariants.{Assign, Compute, New, Load, Store, Print}
use Rattle.sect_types.specs.declared.expansion.action.Label.{Label}
use Rattle.sect_types.specs.declared.expansion.action.Label.TheVariants.{Act, Test, Section}
use Rattle.sect_graph.specs.declared.flow.Node.{Node}
use Rattle.sect_c.specs.Statements.{is_local}
use Rattle.sect_types.specs.declared.expansion.action.Value.TheVariants as value

-- not the site of what is made; and of a local that becomes what it is, not which local it is
abbrev pub said : Action → Action
said (Assign x v) = if is_local x v then Assign 0 (value.Local 0) else Assign x v
said (Compute x v o w) = Compute x v o w
said (New x r site) = New x r 0
said (Load x b f) = Load x b f
said (Store b f v) = Store b f v
said (Print v) = Print v

abbrev pub label_said : Label → Label
label_said (Act a) = Act (said a)
label_said (Test c) = Test c
label_said (Section i) = Section i

abbrev pub node_said : Node → Node
node_said x = record { label = label_said x.label; next = x.next }
