-- What holds of every run of a compiled program.
use Rattle.std.specs.Prelude.{◌≡◌, ℕ, List, false}
use Rattle.sect_world.specs.{declared.event.Event.{Event}, Runs.{IsRun, IsComplete, order_of}, Held.{HoldsEnough}}
use Rattle.sect_world.specs.{Kept.{IsWellKept}, Blocked.{IsStuck, CanGoOn}}
use Rattle.sect_types.specs.Whole.{SerialEndView, RunsWhole, has_ended}
use Rattle.sect_emit.specs.{Compiled.{CompiledView, program_of}, State.{State, ThreadState, IsThread}}

-- in each state of a run each thread holds strongly enough what its next step in a section loads from, stores to or
-- makes
abbrev pub AccessesAreHeld : CompiledView → Type 0
AccessesAreHeld c = (fuel : ℕ) (trace : List Event) (s : State) → IsRun c fuel trace s → (t : ℕ) → HoldsEnough c s t

-- each complete run comes to what whole sections come to, one after another in the order of the `leave` events
abbrev pub EveryRunIsSerial : CompiledView → Type 0
EveryRunIsSerial c =
    (fuel : ℕ) (trace : List Event) (s : State) (e : SerialEndView) → IsRun c fuel trace s → IsComplete s e
    → RunsWhole (program_of c) fuel (order_of trace) e

-- each order in which whole sections come to an end is that of a complete run, which comes to that end
abbrev pub EveryOrderIsRun : CompiledView → Type 0
EveryOrderIsRun c =
    (fuel : ℕ) (order : List ℕ) (e : SerialEndView) → RunsWhole (program_of c) fuel order e
    → (trace : List Event) × (s : State) × IsRun c fuel trace s × IsComplete s e × (order_of trace ≡ order)

-- each state of a run is well kept
abbrev pub StatesAreWellKept : CompiledView → Type 0
StatesAreWellKept c = (fuel : ℕ) (trace : List Event) (s : State) → IsRun c fuel trace s → IsWellKept c s

-- no state of a run is stuck
abbrev pub NoStateIsStuck : CompiledView → Type 0
NoStateIsStuck c = (fuel : ℕ) (trace : List Event) (s : State) → IsRun c fuel trace s → IsStuck s → ⊥

-- while some thread hasn't ended, some event is enabled
abbrev pub SomethingHappens : CompiledView → Type 0
SomethingHappens c =
    (fuel : ℕ) (trace : List Event) (s : State) → IsRun c fuel trace s
    → (t : ℕ) (th : ThreadState) → IsThread s t th → has_ended th.frame.ended ≡ false → CanGoOn c s
