-- What the command `outcomes` answers to a source text. `all_outcomes` cites it.
use Rattle.std.specs.{Prelude.{◌≡◌, ◌≢◌, ℕ, ⊤, List, [], ◌++◌, length, codes, nat_eq, if◌then◌else◌}, Fmt.{decimal}}
use Rattle.sect_types.specs.{Programs.{ProgramView}, Whole.{SerialEndView}}
use Rattle.sect_store.specs.Printing.{by_place, numbered_text}
use Rattle.sect_serial.specs.{Judging.{outcome_of}, Exploring.{Found, ends_in, OutcomesView, Explores, IsUnlisted}}
use Rattle.sect_serial.specs.declared.exploring.OutcomesFault.{OutcomesFault}
use Rattle.sect_emit.specs.{Compiled.{CompiledView, IsCompiledFrom}, State.{State}}
use Rattle.sect_world.specs.{declared.event.Event.{Event}, Runs.{IsRun, IsComplete, order_of}}
use Rattle.sect_lemmas.specs.Lists.{Has}
use Rattle.sect_json.specs.{Values.{document_text}, Outcomes.{outcomes_json}}
use Rattle.sect_answers.specs.{declared.format.Format.{Format}, declared.format.Format.TheVariants.{Text, Json}}
use Rattle.sect_answers.specs.declared.refusal.Refusal.{Refusal}
use Rattle.sect_names.specs.Sources.{IsTypedText, IsRefused}
use Rattle.sect_serial.specs.declared.exploring.OutcomesFault.TheVariants as fault
use Rattle.sect_answers.specs.declared.refusal.Refusal.TheVariants as refusal
use Rattle.sect_names.specs.declared.refusal.SourceRefusal.TheVariants as source_refusal

-- so many things of this name
abbrev pub count_text : ℕ → List ℕ → List ℕ
count_text n name = decimal n ++ codes " " ++ name ++ (if nat_eq n 1 then [] else codes "s")

-- how many outcomes there are, and how many states lead to them
abbrev pub counts_line : OutcomesView → List ℕ
counts_line o =
    count_text (length o.found) (codes "outcome") ++ codes " of " ++ count_text o.states (codes "state") ++ codes "\n"

-- the outcome of this number, with its order
abbrev pub one_text : ProgramView → ℕ → SerialEndView × List ℕ → List ℕ
one_text p n x = numbered_text p n (outcome_of x.1 x.0)

-- how many there are, and each of them
abbrev pub outcomes_text : ProgramView → OutcomesView → List ℕ
outcomes_text p o =
    count_text (length o.found) (codes "outcome") ++ codes " of " ++ count_text o.states (codes "state") ++ codes "\n"
    ++ by_place (one_text p) 0 o.found

-- they as text, or as a document
abbrev pub outcomes_in : Format → ProgramView → OutcomesView → List ℕ
outcomes_in Text p o = outcomes_text p o
outcomes_in Json p o = document_text (outcomes_json p o)

-- these are the ends of all complete runs of the compiled program, each with the order in which sections are left
pub record AreEndsOfRuns (c : CompiledView) (fuel : ℕ) (found : Found) : Type 0 where
  pub right : (x : SerialEndView × List ℕ) → Has found x
      → (trace : List Event) × (s : State) × IsRun c fuel trace s × IsComplete s x.0 × (order_of trace ≡ x.1)
  pub complete : (trace : List Event) (s : State) (e : SerialEndView) → IsRun c fuel trace s → IsComplete s e
      → Has (ends_in found) e

-- these are all outcomes of the program of the text, and how many states lead to them, which are at most so many
pub record AreAllOutcomes (bytes : List ℕ) (fuel most : ℕ) (format : Format) (text : List ℕ) : Type 0 where
  pub program : ProgramView
  pub typed : IsTypedText bytes program
  pub outcomes : OutcomesView
  pub explores : Explores program fuel most outcomes
  -- however the program is compiled, its threads come to these ends and to no others
  pub runs : (k : ℕ) (c : CompiledView) → IsCompiledFrom bytes k c → AreEndsOfRuns c fuel outcomes.found
  pub printed : text ≡ outcomes_in format program outcomes

-- too many states are the program's refusal; want of memory is never inside another
abbrev pub of_outcomes : OutcomesFault → Refusal
of_outcomes fault.Memory = refusal.Memory
of_outcomes fault.TooManyStates = refusal.Outcomes fault.TooManyStates

-- the refusal is due: the text is judged first, and then how many states there are
abbrev pub IsOutcomesDue : List ℕ → ℕ → ℕ → Refusal → Type 0
IsOutcomesDue bytes fuel most refusal.Memory = ⊤
IsOutcomesDue bytes fuel most (refusal.Source why) = (why ≢ source_refusal.Memory) × IsRefused bytes why
IsOutcomesDue bytes fuel most (refusal.Outcomes why) =
    (why ≢ fault.Memory) × ((p : ProgramView) × IsTypedText bytes p × IsUnlisted p fuel most why)
IsOutcomesDue bytes fuel most (refusal.Report text) = ⊥
IsOutcomesDue bytes fuel most (refusal.Section i) = ⊥
IsOutcomesDue bytes fuel most (refusal.Workers why) = ⊥
IsOutcomesDue bytes fuel most (refusal.Serial why) = ⊥
IsOutcomesDue bytes fuel most (refusal.Check why) = ⊥
IsOutcomesDue bytes fuel most (refusal.Schedule why) = ⊥
