-- What running a compiled program by threads comes to. `run_threads` cites it.
use Rattle.std.specs.Prelude.{◌≡◌, ℕ}
use Rattle.sect_types.specs.Whole.{SerialEndView, RunsWhole}
use Rattle.sect_emit.specs.{Compiled.{CompiledView, program_of}, State.{State}}
use Rattle.sect_world.specs.{declared.world.Run.{Run}, Runs.{IsRun, IsComplete, order_of}, Worlds.{outcome_at}}

-- a complete run of the compiled program with this fuel for each thread: the events lead from the start to a state in
-- which all threads have ended, the outcome is that state's, and whole sections come to the same, one after another in
-- the order of the `leave` events
pub record IsWholeRun (c : CompiledView) (fuel : ℕ) (r : Run) : Type 0 where
  pub state : State
  pub end : SerialEndView
  pub run : IsRun c fuel r.events.items state
  pub complete : IsComplete state end
  pub outcome : r.outcome ≡ outcome_at state (order_of r.events.items)
  pub serial : RunsWhole (program_of c) fuel (order_of r.events.items) end
