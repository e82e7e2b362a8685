-- Facts of runs: what threads hold, and which paths keep what they denote.
use Rattle.std.specs.Prelude.{◌≡◌, ◌≢◌, ℕ, true, List}
use Rattle.sect_types.specs.{Statements.{TextView}, declared.expansion.action.Field.{Field}}
use Rattle.sect_types.specs.declared.meaning.store.ObjectName.{ObjectName}
use Rattle.sect_types.specs.declared.meaning.store.Datum.TheVariants.{Refers}
use Rattle.sect_points.specs.Paths.{PathView}
use Rattle.sect_names.specs.{declared.lock.Effect.{Effect}, Needed.{end_of}, Along.{NeededIn, GoesBy}}
use Rattle.sect_world.specs.{declared.event.Event.{Event}, Events.{Happens}, Runs.{IsRun}, Held.{may_read}}
use Rattle.sect_world.specs.Kept.{HaveTheirClass}
use Rattle.sect_emit.specs.{Plan.{path_datum}, Compiled.{CompiledView}, State.{Running, ThreadState, State, IsThread}}
use Rattle.sect_names.specs.declared.lock.Lock.TheVariants as lock

-- in each state of a run who holds an object's key holds `all` in X or the object's class in at least the intention,
-- and who holds a class holds `all` in at least the intention
abbrev pub HoldersHoldTheClass : CompiledView → Type 0
HoldersHoldTheClass c =
    (fuel : ℕ) (trace : List Event) (s : State) → IsRun c fuel trace s → (t : ℕ) (th : ThreadState) → IsThread s t th
    → HaveTheirClass c s.store th.held

-- in each state of a run a thread in a section may read what a beginning of a path denotes that it still needs
abbrev pub BeginningsAreHeld : CompiledView → Type 0
BeginningsAreHeld c =
    (fuel : ℕ) (trace : List Event) (s : State) → IsRun c fuel trace s
    → (t : ℕ) (th : ThreadState) (i : ℕ) (k : TextView) → IsThread s t th
    → th.position ≡ Running i k → (p q : PathView) (f : Field) (e : Effect)
    → NeededIn c.scheme t (end_of c.scheme i) k (lock.Path p e) → GoesBy p q f
    → (o : ObjectName) → path_datum s.store th.frame.work.locals q ≡ Refers o → may_read c s.store th.held o ≡ true

-- from each state of a run an event of another thread leaves what such a path denotes
abbrev pub NeededPathsStay : CompiledView → Type 0
NeededPathsStay c =
    (fuel : ℕ) (trace : List Event) (s after : State) (happened : Event) → IsRun c fuel trace s
    → Happens c s happened after
    → (t : ℕ) (th : ThreadState) (i : ℕ) (k : TextView) → IsThread s t th → t ≢ happened.thread
    → th.position ≡ Running i k
    → (p : PathView) (e : Effect) → NeededIn c.scheme t (end_of c.scheme i) k (lock.Path p e)
    → path_datum after.store th.frame.work.locals p ≡ path_datum s.store th.frame.work.locals p
