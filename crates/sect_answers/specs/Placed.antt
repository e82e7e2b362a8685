-- What the commands that run a program answer where they tell the places of faults. `placed_run`, `placed_serial`,
-- `placed_outcomes`, `placed_turns` and `placed_chart` cite it.
use Rattle.std.specs.Prelude.{◌≡◌, ◌+◌, ◌++◌, ℕ, List, [], ◌∷◌, Option, Some, option_map}
use Rattle.sect_lemmas.specs.Lists.{Has}
use Rattle.sect_types.specs.Whole.{SerialEndView, RunsWhole}
use Rattle.sect_places.specs.NodeSpans.{AreNodeSpans}
use Rattle.sect_store.specs.{Outcomes.{OutcomeView}, Printing.{outcome_text}}
use Rattle.sect_serial.specs.{Judging.{outcome_of}, Exploring.{Found, OutcomesView, Explores}}
use Rattle.sect_emit.specs.{Compiled.{CompiledView, IsCompiledFrom, program_of}, State.{State, start}}
use Rattle.sect_world.specs.{declared.event.Event.{Event}, declared.standing.Standing.{Standing}}
use Rattle.sect_world.specs.{declared.world.Run.{Run}, Runs.{order_of}, Schedules.{TakeTurns, all_events}}
use Rattle.sect_world.specs.Worlds.{outcome_at}
use Rattle.sect_run.specs.Ends.{IsWholeRun}
use Rattle.sect_draw.specs.Chart.{AreRan, AreRanInOrder, IsChart}
use Rattle.sect_draw.specs.Places.{PlacesView, ran_numbered, ran_outcome}
use Rattle.sect_answers.specs.{Answers.{IsDue}, Outcomes.{AreEndsOfRuns, IsOutcomesDue, counts_line}}
use Rattle.sect_answers.specs.{Serial.{IsOutcome, IsSerialDue}, Turns.{turn_lines}}
use Rattle.sect_answers.specs.declared.{format.Format.TheVariants.{Text}, refusal.Refusal.{Refusal}}
use Rattle.sect_answers.specs.declared.placed_list.Replayed.{Replayed}
use Rattle.sect_answers.specs.declared.refusal.Refusal.TheVariants as refusal

-- the places of the nodes of the compiled program in its text, of this file
pub record ArePlaces (file : Option (List ℕ)) (source : List ℕ) (c : CompiledView) (v : PlacesView) : Type 0 where
  pub text : v.source ≡ source
  pub named : v.file ≡ file
  pub nodes : AreNodeSpans source (program_of c) v.spans

-- whole sections in the order of each come to its end
abbrev pub AreWhole : CompiledView → ℕ → Found → Type 0
AreWhole c fuel found =
    (x : SerialEndView × List ℕ) → Has found x → RunsWhole (program_of c) fuel x.1 x.0

-- an outcome of the compiled program is added, with where its faults stand; there these threads stood
abbrev pub AddsOutcome : Option (List ℕ) → List ℕ → CompiledView → List (Option Standing) → OutcomeView → List ℕ
    → List ℕ → Type 0
AddsOutcome file source c ran o old new =
    (v : PlacesView) × ArePlaces file source c v × (new ≡ old ++ ran_outcome (program_of c) (Some v) ran o)

-- an outcome of the compiled program, with where its faults stand
pub record IsOutcomePlaced (file : Option (List ℕ)) (source : List ℕ) (c : CompiledView) (fuel : ℕ) (o : OutcomeView)
    (bytes : List ℕ) : Type 0 where
  pub places : PlacesView
  pub placed : ArePlaces file source c places
  pub ran : List (Option Standing)
  pub told : AreRanInOrder c fuel o.order ran
  pub printed : bytes ≡ ran_outcome (program_of c) (Some places) ran o

-- the text is accepted, and this is the outcome of a complete run of its compiled program; it is what `serial` answers
-- for the order of that run's `leave` events, with where its faults stand
pub record IsPlacedRun (file : Option (List ℕ)) (source : List ℕ) (k fuel : ℕ) (bytes : List ℕ) : Type 0 where
  pub compiled : CompiledView
  pub from : IsCompiledFrom source k compiled
  pub run : Run
  pub whole : IsWholeRun compiled fuel run
  pub serial : IsOutcome source fuel (order_of run.events.items) Text (outcome_text (program_of compiled) run.outcome)
  pub printed : IsOutcomePlaced file source compiled fuel run.outcome bytes

-- the text is accepted, and this is the outcome of its program by whole sections in this order
pub record IsPlacedSerial (file : Option (List ℕ)) (source : List ℕ) (k fuel : ℕ) (order : List ℕ) (bytes : List ℕ)
    : Type 0 where
  pub compiled : CompiledView
  pub from : IsCompiledFrom source k compiled
  pub end : SerialEndView
  pub runs : RunsWhole (program_of compiled) fuel order end
  pub printed : IsOutcomePlaced file source compiled fuel (outcome_of order end) bytes

-- an outcome of this number, with where its faults stand
abbrev pub IsListed : CompiledView → ℕ → PlacesView → ℕ → SerialEndView × List ℕ → List ℕ → Type 0
IsListed c fuel v n x bytes =
    (ran : List (Option Standing)) × AreRanInOrder c fuel x.1 ran
    × (bytes ≡ ran_numbered (program_of c) v ran n (outcome_of x.1 x.0))

-- outcomes one after another, the first of this number
abbrev pub AreListed : CompiledView → ℕ → PlacesView → ℕ → Found → List ℕ → Type 0
AreListed c fuel v n [] bytes = bytes ≡ []
AreListed c fuel v n (x ∷ xs) bytes =
    (one : List ℕ) × (rest : List ℕ) × IsListed c fuel v n x one × AreListed c fuel v (n + 1) xs rest
    × (bytes ≡ one ++ rest)

-- the places of a compiled program that is replayed, as a reader is told of them
abbrev pub shown_of : Replayed → PlacesView
shown_of r = record { source = r.source.now; spans = r.spans.now; file = option_map (λ name. name.now) r.file }

-- they are those of its nodes in its text
abbrev pub IsReplayed : Replayed → Type 0
IsReplayed r = AreNodeSpans r.source.now (program_of r.compiled.now) r.spans.now

-- how many outcomes there are, and each of them, with where its faults stand
pub record AreListedPlaced (file : Option (List ℕ)) (source : List ℕ) (c : CompiledView) (fuel : ℕ) (o : OutcomesView)
    (bytes : List ℕ) : Type 0 where
  pub places : PlacesView
  pub placed : ArePlaces file source c places
  pub lines : List ℕ
  pub listed : AreListed c fuel places 0 o.found lines
  pub printed : bytes ≡ counts_line o ++ lines

-- the text is accepted, and these are all outcomes of its program
pub record ArePlacedOutcomes (file : Option (List ℕ)) (source : List ℕ) (k fuel most : ℕ) (bytes : List ℕ)
    : Type 0 where
  pub compiled : CompiledView
  pub from : IsCompiledFrom source k compiled
  pub outcomes : OutcomesView
  pub explores : Explores (program_of compiled) fuel most outcomes
  pub runs : AreEndsOfRuns compiled fuel outcomes.found
  pub listed : AreListedPlaced file source compiled fuel outcomes bytes

-- these threads have a turn each from the start of the compiled program, and the bytes are a line for each turn, with
-- its events, and the outcome of the state that they lead to, with where its faults stand
pub record AreLinesPlaced (file : Option (List ℕ)) (source : List ℕ) (c : CompiledView) (fuel : ℕ) (schedule : List ℕ)
    (bytes : List ℕ) : Type 0 where
  pub state : State
  pub blocks : List (List Event)
  pub turns : TakeTurns c (start c fuel) schedule blocks state
  pub places : PlacesView
  pub placed : ArePlaces file source c places
  pub ran : List (Option Standing)
  pub told : AreRan c fuel schedule ran
  pub printed : bytes ≡ turn_lines (program_of c) blocks
      ++ ran_outcome (program_of c) (Some places) ran (outcome_at state (order_of (all_events blocks)))

-- the text is accepted, and these are the turns of its compiled program
pub record ArePlacedTurns (file : Option (List ℕ)) (source : List ℕ) (k fuel : ℕ) (schedule : List ℕ) (bytes : List ℕ)
    : Type 0 where
  pub compiled : CompiledView
  pub from : IsCompiledFrom source k compiled
  pub lines : AreLinesPlaced file source compiled fuel schedule bytes

-- the chart of these turns of the compiled program, which says what each of them has run, and where that and the faults
-- stand
pub record IsChartPlaced (file : Option (List ℕ)) (source : List ℕ) (c : CompiledView) (fuel : ℕ) (schedule : List ℕ)
    (bytes : List ℕ) : Type 0 where
  pub places : PlacesView
  pub placed : ArePlaces file source c places
  pub chart : IsChart c fuel schedule (Some places) bytes

-- the text is accepted, and this is the chart of these turns of its compiled program
pub record IsPlacedChart (file : Option (List ℕ)) (source : List ℕ) (k fuel : ℕ) (schedule : List ℕ) (bytes : List ℕ)
    : Type 0 where
  pub compiled : CompiledView
  pub from : IsCompiledFrom source k compiled
  pub chart : IsChartPlaced file source compiled fuel schedule bytes

-- the refusal is due: k and the text with its hints are judged first, and then the order
abbrev pub IsPlacedSerialDue : List ℕ → ℕ → ℕ → List ℕ → Refusal → Type 0
IsPlacedSerialDue source k fuel order (refusal.Source why) = IsDue source k (refusal.Source why)
IsPlacedSerialDue source k fuel order why = IsSerialDue source fuel order why

-- the same, and then how many states there are
abbrev pub IsPlacedOutcomesDue : List ℕ → ℕ → ℕ → ℕ → Refusal → Type 0
IsPlacedOutcomesDue source k fuel most (refusal.Source why) = IsDue source k (refusal.Source why)
IsPlacedOutcomesDue source k fuel most why = IsOutcomesDue source fuel most why
