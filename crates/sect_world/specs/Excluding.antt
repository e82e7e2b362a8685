-- Readers and writers exclude each other.
use Rattle.std.specs.Prelude.{◌≡◌, ◌≢◌, ⊤, ℕ, true, List}
use Rattle.sect_types.specs.declared.meaning.store.ObjectName.{ObjectName}
use Rattle.sect_world.specs.{declared.event.Event.{Event}, Runs.{IsRun}, Held.{may_read, may_write}}
use Rattle.sect_emit.specs.Compiled.{CompiledView}
use Rattle.sect_emit.specs.State.{Position, Outside, Entered, Running, Faulted, ThreadState, State, IsThread}

-- it has begun a section and hasn't left it
abbrev pub IsInSection : Position → Type 0
IsInSection Outside = ⊥
IsInSection Entered = ⊥
IsInSection (Running i k) = ⊤
IsInSection (Faulted i why) = ⊤

-- of two threads none may read what the other may write
abbrev pub Excludes : CompiledView → State → Type 0
Excludes c s =
    (t u : ℕ) (reader writer : ThreadState) → t ≢ u → IsThread s t reader → IsThread s u writer
    → (o : ObjectName) → may_read c s.store reader.held o ≡ true → may_write c s.store writer.held o ≡ true → ⊥

-- in each state of a run none may read what another may write
abbrev pub ReadersAndWritersExclude : CompiledView → Type 0
ReadersAndWritersExclude c = (fuel : ℕ) (trace : List Event) (s : State) → IsRun c fuel trace s → Excludes c s
