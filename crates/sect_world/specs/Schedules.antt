-- What running a schedule comes to. `run_schedule` cites it.
use Rattle.std.specs.{Prelude.{◌≡◌, ◌<◌, ◌≤◌, ⊤, ℕ, List, [], ◌∷◌, ◌++◌, map, length}, List.{flat_map}}
use Rattle.sect_lemmas.specs.Lists.{Has}
use Rattle.sect_types.specs.Whole.{SerialEndView, RunsWhole}
use Rattle.sect_emit.specs.{Compiled.{CompiledView, program_of}, State.{State, start}}
use Rattle.sect_world.specs.{declared.event.Event.{Event}, declared.schedule.Progress.{Progress}}
use Rattle.sect_world.specs.{declared.turned.Turned.{Turned}, declared.turned.WorldFault.{WorldFault}}
use Rattle.sect_world.specs.{declared.turned.WorldFault.TheVariants.{NoSuchThread, Memory}, Blocked.{IsStuck}}
use Rattle.sect_world.specs.{Runs.{IsRun, IsComplete, order_of}, Worlds.{Does, AllEnded, outcome_at}}

-- these threads have a turn each, one after another, which make these events and lead from one state to the other
abbrev pub TakeTurns : CompiledView → State → List ℕ → List (List Event) → State → Type 0
TakeTurns c s [] [] after = s ≡ after
TakeTurns c s [] (es ∷ rest) after = ⊥
TakeTurns c s (t ∷ ts) [] after = ⊥
TakeTurns c s (t ∷ ts) (es ∷ rest) after =
    (turned : Turned) × (between : State) × Does c s t turned es between × TakeTurns c between ts rest after

-- the events of turns, one after another
abbrev pub all_events : List (List Event) → List Event
all_events = flat_map (λ es. es)

-- what the turns of the threads of the schedule have come to, from the start: the events are a run to a state that
-- isn't stuck; the outcome is that state's; and where all threads have ended whole sections come to the same, one after
-- another in the order of the `leave` events
pub record IsProgress (c : CompiledView) (fuel : ℕ) (schedule : List ℕ) (p : Progress) : Type 0 where
  pub state : State
  pub blocks : List (List Event)
  pub turns : TakeTurns c (start c fuel) schedule blocks state
  pub events : p.run.events.items ≡ all_events blocks
  pub made : p.made.items ≡ map length blocks
  pub run : IsRun c fuel p.run.events.items state
  pub going : IsStuck state → ⊥
  pub outcome : p.run.outcome ≡ outcome_at state (order_of p.run.events.items)
  pub serial : AllEnded state → (e : SerialEndView) × IsComplete state e
      × RunsWhole (program_of c) fuel (order_of p.run.events.items) e

-- the first number of the schedule that is none of so many threads
pub record IsFirstMissing (schedule : List ℕ) (count u : ℕ) : Type 0 where
  pub before : List ℕ
  pub after : List ℕ
  pub split : schedule ≡ before ++ u ∷ after
  pub there : (t : ℕ) → Has before t → t < count
  pub missing : count ≤ u

-- why a schedule isn't run: the first entry that is none of so many threads, or want of memory
abbrev pub IsUnrun : WorldFault → List ℕ → ℕ → Type 0
IsUnrun (NoSuchThread u) schedule count = IsFirstMissing schedule count u
IsUnrun Memory schedule count = ⊤
