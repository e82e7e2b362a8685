-- What the words of a command line ask for, by the commands and what each takes. `command` cites it.
use Rattle.std.specs.Prelude.{◌≡◌, ◌⊎◌, ◌++◌, ◌||◌, Bool, true, false, List, [], ◌∷◌, Some, codes, map}
use Rattle.std.specs.{Str.{bytes_eq}, String.{string_bytes}}
use Rattle.clap.specs.Faults.{fault_of}
use Rattle.clap.specs.Simple.{subcommand_of as subcommand_met}
use Rattle.clap.specs.{Matches.{first_value}, Walk.{Text, rows_of}, declared.parser.matches.Found.{Found}}
use Rattle.sect_command.specs.{Asking.{IsMade, files_in}, Commands.{name_of, sectc}, Saying.{SaysColour}}
use Rattle.sect_command.specs.declared.{request.Wanted.{Wanted}, subcommand.Subcommand.{Subcommand}}
use Rattle.sect_command.specs.declared.request.Wanted.TheVariants.{Answers, Session}
use Rattle.sect_command.specs.declared.subcommand.Subcommand.TheVariants.{Lsp}

-- the words, the program's name first, are those of a command that takes threads
abbrev pub take_threads : List Text → Bool
take_threads (program ∷ command ∷ words) =
    bytes_eq command (codes "serial") || bytes_eq command (codes "schedule")
take_threads words = false

-- `clap` is told the first of the words; those behind them are threads, where any are
pub record AreToldApart (words told behind : List Text) : Type 0 where
  pub all : words ≡ told ++ behind
  pub threads : (behind ≡ []) ⊎ (take_threads words ≡ true)

-- the subcommand makes this of its options, and of the words behind
abbrev pub Makes : Subcommand → Found → List Text → Wanted → Type 0
Makes s found behind Session = s ≡ Lsp
Makes s found behind (Answers asked) =
    IsMade s found behind asked.request × (map string_bytes asked.files.items ≡ files_in found)
    × SaysColour (first_value found (codes "color")) asked.colour

-- the words of which `clap` is told, as it reads them by the commands, name a subcommand and its options, and these
-- make this, with the words behind
pub record IsMadeBy (told behind : List Text) (wanted : Wanted) : Type 0 where
  -- it refuses none of them
  pub right : fault_of sectc told ≡ []
  pub subcommand : Subcommand
  pub found : Found
  pub met : subcommand_met sectc told ≡ Some (name_of subcommand, rows_of found)
  pub makes : Makes subcommand found behind wanted

-- the words, the program's name first, ask for this
pub record IsWanted (words : List Text) (wanted : Wanted) : Type 0 where
  pub told : List Text
  pub behind : List Text
  pub apart : AreToldApart words told behind
  pub made : IsMadeBy told behind wanted
