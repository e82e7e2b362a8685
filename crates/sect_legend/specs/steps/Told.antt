-- What a node makes.
use Rattle.std.specs.Prelude.{ℕ, Option, Some, None}
use Rattle.sect_types.specs.declared.expansion.action.Label.{Label}
use Rattle.sect_types.specs.declared.expansion.action.Action.TheVariants as action
use Rattle.sect_types.specs.declared.expansion.action.Label.TheVariants as label

-- the record of what a node makes that does this
abbrev pub made_by : Label → Option ℕ
made_by (label.Act (action.New x r s)) = Some r
made_by _ = None
