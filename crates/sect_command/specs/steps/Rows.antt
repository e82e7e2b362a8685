-- What `clap` is told of a row of the table.
use Rattle.std.specs.Prelude.{map, fold, true, List, [], codes}
use Rattle.clap.specs.Walk.{Rule}
use Rattle.clap.specs.Simple.{App, Shape, new_shape, with_subcommand}
use Rattle.sect_command.specs.Commands.{flag, operand, operands, option, option_again}
use Rattle.sect_command.specs.declared.subcommand.Subcommand.{Subcommand}
use Rattle.sect_command.specs.declared.grammar.{Argument.{Argument}, Given.{Given}, Row.{Row}}
use Rattle.sect_command.specs.declared.grammar.Given.TheVariants.{Again, Alone, Before, Once, Unnamed}

abbrev pub rule_given : Argument → Given → Rule
rule_given a Alone = flag a.name.now
rule_given a (Before word) = option a.name.now
rule_given a (Again word) = option_again a.name.now
rule_given a (Once word) = operand a.name.now
rule_given a (Unnamed word) = operands a.name.now

abbrev pub rule_told : Argument → Rule
rule_told a = rule_given a a.given

-- the command with the first of its arguments
abbrev pub shape_with : Row → List Argument → Shape
shape_with row arguments = record (new_shape row.name.now) { rules = map rule_told arguments }

abbrev pub shape_told : Row → Shape
shape_told row = shape_with row row.takes.now

abbrev pub row_told : Row → Subcommand × Shape
row_told row = (row.subcommand, shape_told row)

-- the command line with the first of its commands, before one of them is wanted
abbrev pub app_with : List Row → App
app_with rows = fold (λ a row. with_subcommand a (shape_told row))
    (record { top = record (new_shape (codes "sectc")) { has_version = true }; subs = [] }) rows
