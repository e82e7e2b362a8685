-- What the command `schedule` answers to a source text. `schedule_outcome` cites it.
use Rattle.std.specs.Prelude.{◌≡◌, ◌≢◌, ◌≤◌, ◌<◌, ◌++◌, ℕ, List, length}
use Rattle.sect_lemmas.specs.Lists.{Has}
use Rattle.sect_names.specs.{Schemes.{SchemeView}, Sources.{IsAccepted}}
use Rattle.sect_emit.specs.{Compiled.{CompiledView, IsCompiledFrom, program_of}, State.{State, start}}
use Rattle.sect_world.specs.{Runs.{order_of}, Schedules.{TakeTurns, IsFirstMissing, all_events}, Worlds.{outcome_at}}
use Rattle.sect_world.specs.{declared.event.Event.{Event}, declared.turned.WorldFault.{WorldFault}}
use Rattle.sect_answers.specs.{declared.format.Format.{Format}, declared.refusal.Refusal.{Refusal}, Turns.{turn_lines}}
use Rattle.sect_answers.specs.declared.format.Format.TheVariants.{Text, Json}
use Rattle.sect_json.specs.Turns.{IsTurnsDocument}
use Rattle.sect_store.specs.Printing.{outcome_text}
use Rattle.sect_names.specs.Sources as sources
use Rattle.sect_names.specs.declared.refusal.SourceRefusal.TheVariants as source_refusal
use Rattle.sect_world.specs.declared.turned.WorldFault.TheVariants as fault
use Rattle.sect_answers.specs.declared.refusal.Refusal.TheVariants as refusal

-- these threads have a turn each from the start of the compiled program, and the bytes are a line for each turn, with
-- its events, and the outcome of the state that they lead to
pub record AreTurnLines (c : CompiledView) (fuel : ℕ) (schedule : List ℕ) (bytes : List ℕ) : Type 0 where
  pub state : State
  pub blocks : List (List Event)
  pub turns : TakeTurns c (start c fuel) schedule blocks state
  pub printed : bytes ≡ turn_lines (program_of c) blocks
      ++ outcome_text (program_of c) (outcome_at state (order_of (all_events blocks)))

-- the turns of these threads, as lines or as a document
abbrev pub AreTurnsOf : Format → List ℕ → CompiledView → ℕ → List ℕ → List ℕ → Type 0
AreTurnsOf Text source c fuel schedule bytes = AreTurnLines c fuel schedule bytes
AreTurnsOf Json source c fuel schedule bytes = IsTurnsDocument source c fuel schedule bytes

-- the source is accepted, and the bytes are the turns of its compiled program
pub record IsScheduled (source : List ℕ) (k fuel : ℕ) (schedule : List ℕ) (format : Format) (bytes : List ℕ)
    : Type 0 where
  pub compiled : CompiledView
  pub from : IsCompiledFrom source k compiled
  pub turns : AreTurnsOf format source compiled fuel schedule bytes

-- each number of the schedule is one of a program's threads
abbrev pub AreThreads : SchemeView → List ℕ → Type 0
AreThreads s schedule = (t : ℕ) → Has schedule t → t < length s.program.texts

-- a refusal of the schedule is the program's; want of memory is never inside another
abbrev pub of_world : WorldFault → Refusal
of_world fault.Memory = refusal.Memory
of_world why = refusal.Schedule why

-- this is the first number of the schedule that is no thread's
abbrev pub IsNoThread : List ℕ → ℕ → List ℕ → WorldFault → Type 0
IsNoThread bytes k schedule (fault.NoSuchThread t) =
    (s : SchemeView) × IsAccepted bytes k s × IsFirstMissing schedule (length s.program.texts) t
IsNoThread bytes k schedule fault.Memory = ⊥

-- the refusal is due: the text is judged first, and then the schedule
abbrev pub IsScheduleDue : List ℕ → ℕ → List ℕ → Refusal → Type 0
IsScheduleDue bytes k schedule refusal.Memory = k ≤ 3
IsScheduleDue bytes k schedule (refusal.Source why) = (why ≢ source_refusal.Memory) × sources.IsDue bytes k why
IsScheduleDue bytes k schedule (refusal.Schedule why) = IsNoThread bytes k schedule why
IsScheduleDue bytes k schedule (refusal.Report text) = ⊥
IsScheduleDue bytes k schedule (refusal.Section i) = ⊥
IsScheduleDue bytes k schedule (refusal.Workers why) = ⊥
IsScheduleDue bytes k schedule (refusal.Serial why) = ⊥
IsScheduleDue bytes k schedule (refusal.Check why) = ⊥
IsScheduleDue bytes k schedule (refusal.Outcomes why) = ⊥
