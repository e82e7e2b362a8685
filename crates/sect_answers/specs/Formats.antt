-- The outcome of a run as the commands print it. `outcome_printed` cites it.
use Rattle.std.specs.Prelude.{ℕ, List}
use Rattle.sect_types.specs.Programs.{ProgramView}
use Rattle.sect_store.specs.{Outcomes.{OutcomeView}, Printing.{outcome_text}}
use Rattle.sect_json.specs.{Values.{document_text}, Outcomes.{outcome_json}}
use Rattle.sect_answers.specs.{declared.format.Format.{Format}, declared.format.Format.TheVariants.{Text, Json}}

-- lines, or a document
abbrev pub outcome_in : Format → ProgramView → OutcomeView → List ℕ
outcome_in Text p o = outcome_text p o
outcome_in Json p o = document_text (outcome_json p o)
