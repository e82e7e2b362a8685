-- The commands, their names and what each takes: what `clap` is told. `command` cites it.
use Rattle.std.specs.Prelude.{true, false, ◌∷◌, [], List, Some, codes, map}
use Rattle.clap.specs.Lexer.{usize_max}
use Rattle.clap.specs.Walk.{Rule, Text}
use Rattle.clap.specs.Simple.{App, Shape, new_rule, new_shape}
use Rattle.clap.specs.declared.builder.action.ArgAction.TheVariants.{Append, Set, SetTrue}
use Rattle.sect_command.specs.declared.subcommand.Subcommand.{Subcommand}
use Rattle.sect_command.specs.declared.subcommand.Subcommand.TheVariants.{Locks, Compile, C, Explain, Conflicts, Graph}
use Rattle.sect_command.specs.declared.subcommand.Subcommand.TheVariants.{Inspect, Check, Serial, Outcomes, Schedule}
use Rattle.sect_command.specs.declared.subcommand.Subcommand.TheVariants.{Run, Lint, Lsp}

-- `--name` alone
abbrev pub flag : Text → Rule
flag name = record (new_rule name) { long = Some name; action = Some SetTrue }

-- `--name` and a word
abbrev pub option : Text → Rule
option name = record (new_rule name) { long = Some name; value_names = 1; action = Some Set }

-- the same, as often as is wanted
abbrev pub option_again : Text → Rule
option_again name = record (new_rule name) { long = Some name; value_names = 1; action = Some Append }

-- a word without a name before it
abbrev pub operand : Text → Rule
operand name = record (new_rule name) { value_names = 1; action = Some Set }

-- words without a name before them, as many as there are
abbrev pub operands : Text → Rule
operands name = record (new_rule name) {
  value_names = 1;
  range = Some (record { start_inclusive = 0; end_inclusive = usize_max });
  action = Some Append;
}

abbrev pub name_of : Subcommand → Text
name_of Locks = codes "locks"
name_of Compile = codes "compile"
name_of C = codes "c"
name_of Explain = codes "explain"
name_of Conflicts = codes "conflicts"
name_of Inspect = codes "inspect"
name_of Graph = codes "graph"
name_of Serial = codes "serial"
name_of Outcomes = codes "outcomes"
name_of Schedule = codes "schedule"
name_of Run = codes "run"
name_of Lint = codes "lint"
name_of Lsp = codes "lsp"
name_of Check = codes "check"

abbrev k : Rule
k = option (codes "k")

abbrev format : Rule
format = option (codes "format")

abbrev fuel : Rule
fuel = option (codes "fuel")

abbrev file : Rule
file = operand (codes "file")

abbrev files : Rule
files = operands (codes "file")

-- the file is an option where the operands are threads
abbrev named_file : Rule
named_file = option (codes "file")

abbrev threads : Rule
threads = operands (codes "threads")

abbrev verbose : Rule
verbose = flag (codes "verbose")

abbrev places : Rule
places = flag (codes "places")

abbrev color : Rule
color = option (codes "color")

-- what a command takes
abbrev pub taken_by : Subcommand → List Rule
taken_by Locks = k ∷ format ∷ verbose ∷ files ∷ []
taken_by Compile = k ∷ format ∷ option (codes "workers") ∷ flag (codes "cert") ∷ file ∷ []
taken_by C = k ∷ file ∷ []
taken_by Explain = k ∷ format ∷ color ∷ file ∷ []
taken_by Conflicts = k ∷ format ∷ verbose ∷ color ∷ files ∷ []
taken_by Inspect = k ∷ file ∷ []
taken_by Graph = k ∷ option (codes "section") ∷ file ∷ []
taken_by Serial = fuel ∷ format ∷ places ∷ named_file ∷ threads ∷ []
taken_by Outcomes = fuel ∷ option (codes "most") ∷ format ∷ places ∷ file ∷ []
taken_by Schedule = k ∷ format ∷ fuel ∷ flag (codes "chart") ∷ places ∷ color ∷ named_file ∷ threads ∷ []
taken_by Run = k ∷ format ∷ fuel ∷ flag (codes "time") ∷ places ∷ file ∷ []
taken_by Lint = k ∷ format ∷ option_again (codes "deny") ∷ option_again (codes "allow") ∷ color ∷ files ∷ []
taken_by Lsp = []
taken_by Check = k ∷ file ∷ []

-- all commands, in the order of the help
abbrev pub commands : List Subcommand
commands = Locks ∷ Compile ∷ C ∷ Explain ∷ Conflicts ∷ Inspect ∷ Graph ∷ Serial ∷ Outcomes ∷ Schedule ∷ Run ∷ Lint
    ∷ Lsp ∷ Check ∷ []

-- the command line of a command
abbrev pub shape_by : Subcommand → Shape
shape_by s = record (new_shape (name_of s)) { rules = taken_by s }

abbrev pub command_told : Subcommand → Subcommand × Shape
command_told s = (s, shape_by s)

-- the command line: one of the commands is wanted, and there is a version
abbrev pub sectc : App
sectc = record {
  top = record (new_shape (codes "sectc")) { is_leaf = false; has_version = true; subcommand_required = true };
  subs = map shape_by commands;
}
