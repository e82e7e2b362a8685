-- What clauses see of a world, and what its turns are. The methods of `World` and `run_schedule` cite it.
use Rattle.std.specs.Prelude.{◌≡◌, ◌≢◌, ◌≤◌, ◌<◌, ⊤, ℕ, true, List, [], ◌∷◌, ◌++◌, map, drop}
use Rattle.sect_types.specs.Whole.{has_ended}
use Rattle.sect_store.specs.Outcomes.{OutcomeView}
use Rattle.sect_emit.specs.{Compiled.{CompiledView, program_of}, State.{ThreadState, State, IsThread, start}}
use Rattle.sect_world.specs.{declared.event.Deed.{Deed}, declared.event.Event.{Event}}
use Rattle.sect_world.specs.{declared.turned.EventKind.{EventKind}, declared.turned.Turned.{Turned}}
use Rattle.sect_world.specs.declared.turned.Turned.TheVariants.{Moved, Waits, Ended}
use Rattle.sect_world.specs.declared.turned.WorldFault.{WorldFault}
use Rattle.sect_world.specs.{declared.turned.WorldFault.TheVariants.{NoSuchThread, Memory}, Runs.{RunsTo, ends_of}}
use Rattle.sect_world.specs.Blocked.{IsBlocked}
use Rattle.sect_world.specs.declared.event.Deed.TheVariants as deed
use Rattle.sect_world.specs.declared.turned.EventKind.TheVariants as kind

-- the compiled program, the fuel of each thread, the events, the threads of the `leave` events in order, the state, and
-- the threads that the last turn has let in
pub record WorldView : Type 0 where
  pub compiled : CompiledView
  pub fuel : ℕ
  pub trace : List Event
  pub order : List ℕ
  pub state : State
  pub granted : List ℕ

-- the world in which runs start
abbrev pub first_world : CompiledView → ℕ → WorldView
first_world c fuel =
    record { compiled = c; fuel = fuel; trace = []; order = []; state = start c fuel; granted = [] }

abbrev pub kind_of : Deed → EventKind
kind_of deed.Local = kind.Local
kind_of deed.Enter = kind.Enter
kind_of (deed.Take k m) = kind.Take
kind_of deed.Begin = kind.Begin
kind_of deed.Again = kind.Again
kind_of deed.Act = kind.Act
kind_of deed.Leave = kind.Leave

-- each event is a `take` of another thread than t
abbrev pub AreTakesOfOthers : ℕ → List Event → Type 0
AreTakesOfOthers t [] = ⊤
AreTakesOfOthers t (e ∷ es) = (kind_of e.deed ≡ kind.Take) × (e.thread ≢ t) × AreTakesOfOthers t es

-- what may follow an event of thread t within its turn: takes of others where it gives its keys back, else nothing
abbrev pub MayFollow : EventKind → ℕ → List Event → Type 0
MayFollow kind.Local t es = es ≡ []
MayFollow kind.Enter t es = es ≡ []
MayFollow kind.Take t es = es ≡ []
MayFollow kind.Begin t es = es ≡ []
MayFollow kind.Again t es = AreTakesOfOthers t es
MayFollow kind.Act t es = es ≡ []
MayFollow kind.Leave t es = AreTakesOfOthers t es

-- the turn of thread t that comes to this makes these events in the first state, and they lead to the second
abbrev pub Does : CompiledView → State → ℕ → Turned → List Event → State → Type 0
Does c s t (Moved k) [] after = ⊥
Does c s t (Moved k) (e ∷ es) after =
    (e.thread ≡ t) × (kind_of e.deed ≡ k) × MayFollow k t es × RunsTo c s (e ∷ es) after
Does c s t Waits es after = (es ≡ []) × (after ≡ s) × ((th : ThreadState) × IsThread s t th × IsBlocked s th)
Does c s t Ended es after =
    (es ≡ []) × (after ≡ s) × ((th : ThreadState) × IsThread s t th × (has_ended th.frame.ended ≡ true))

-- whose events these are
abbrev pub threads_of : List Event → List ℕ
threads_of = map (λ (e : Event). e.thread)

-- what the turn of thread t that comes to this makes of a world: program and fuel stay, and the trace grows by the
-- events of the turn; who takes after the first of them has been let in
pub record IsTurned (t : ℕ) (turned : Turned) (old new : WorldView) : Type 0 where
  pub compiled : new.compiled ≡ old.compiled
  pub fuel : new.fuel ≡ old.fuel
  pub events : List Event
  pub trace : new.trace ≡ old.trace ++ events
  pub does : Does old.compiled old.state t turned events new.state
  pub granted : new.granted ≡ threads_of (drop 1 events)

-- why a turn of thread t is refused, where there are so many
abbrev pub IsRefused : WorldFault → ℕ → ℕ → Type 0
IsRefused (NoSuchThread u) t count = (u ≡ t) × (count ≤ t)
IsRefused Memory t count = t < count

-- the world is of that program, compiled for paths of as many fields, with that fuel
abbrev pub IsRunOf : WorldView → CompiledView → ℕ → Type 0
IsRunOf w c fuel =
    (program_of w.compiled ≡ program_of c) × (w.compiled.scheme.most ≡ c.scheme.most) × (w.fuel ≡ fuel)

-- all threads have ended
abbrev pub AllEnded : State → Type 0
AllEnded s = (t : ℕ) (th : ThreadState) → IsThread s t th → has_ended th.frame.ended ≡ true

-- what a run has come to, whose `leave` events are of these threads
abbrev pub outcome_at : State → List ℕ → OutcomeView
outcome_at s order = record { ends = ends_of s; order = order; output = s.output; store = s.store }
