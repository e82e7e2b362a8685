-- What the command `serial` answers to a source text. `serial_outcome` cites it.
use Rattle.std.specs.Prelude.{◌≡◌, ◌≢◌, ℕ, ⊤, List, Err}
use Rattle.sect_types.specs.{Programs.{ProgramView}, Whole.{SerialEndView, RunsWhole}}
use Rattle.sect_serial.specs.{Judging.{Judges, outcome_of}, declared.whole.SerialFault.{SerialFault}}
use Rattle.sect_answers.specs.{Formats.{outcome_in}, declared.format.Format.{Format}}
use Rattle.sect_answers.specs.declared.refusal.Refusal.{Refusal}
use Rattle.sect_names.specs.Sources.{IsTypedText, IsRefused}
use Rattle.sect_serial.specs.declared.whole.SerialFault.TheVariants as fault
use Rattle.sect_answers.specs.declared.refusal.Refusal.TheVariants as refusal
use Rattle.sect_names.specs.declared.refusal.SourceRefusal.TheVariants as source_refusal

-- the text has a program that runs by whole sections in this order to an end, and this is the outcome
pub record IsOutcome (bytes : List ℕ) (fuel : ℕ) (order : List ℕ) (format : Format) (text : List ℕ) : Type 0 where
  pub program : ProgramView
  pub typed : IsTypedText bytes program
  pub end : SerialEndView
  pub runs : RunsWhole program fuel order end
  pub printed : text ≡ outcome_in format program (outcome_of order end)

-- a fault of the order is the program's refusal; want of memory is never inside another
abbrev pub of_serial : SerialFault → Refusal
of_serial fault.Memory = refusal.Memory
of_serial why = refusal.Serial why

-- the refusal is due: the text is judged first, and then the order
abbrev pub IsSerialDue : List ℕ → ℕ → List ℕ → Refusal → Type 0
IsSerialDue bytes fuel order refusal.Memory = ⊤
IsSerialDue bytes fuel order (refusal.Source why) = (why ≢ source_refusal.Memory) × IsRefused bytes why
IsSerialDue bytes fuel order (refusal.Serial why) =
    (why ≢ fault.Memory) × ((p : ProgramView) × IsTypedText bytes p × Judges p fuel order (Err why))
IsSerialDue bytes fuel order (refusal.Report text) = ⊥
IsSerialDue bytes fuel order (refusal.Section i) = ⊥
IsSerialDue bytes fuel order (refusal.Workers why) = ⊥
IsSerialDue bytes fuel order (refusal.Check why) = ⊥
IsSerialDue bytes fuel order (refusal.Schedule why) = ⊥
IsSerialDue bytes fuel order (refusal.Outcomes why) = ⊥
