-- What holds of every run of a compiled program, also where it isn't complete: how its state stands to whole sections.
use Rattle.std.specs.Prelude.{◌≡◌, ℕ, true, List, Some, None, slice_get}
use Rattle.sect_types.specs.{Statements.{TextView, Section}, declared.meaning.store.ObjectName.{ObjectName}}
use Rattle.sect_types.specs.{Store.{StoreView, object_at}, Meaning.{WorkView}}
use Rattle.sect_types.specs.Whole.{FrameView, ahead, RunView, in_order, begun}
use Rattle.sect_world.specs.{declared.event.Event.{Event}, Runs.{IsRun, order_of}, Held.{may_read}}
use Rattle.sect_world.specs.{Excluding.{IsInSection}, Replay.{replay, NobodyWrites}}
use Rattle.sect_emit.specs.{Compiled.{CompiledView, program_of}, State.{Running, ThreadState, State, IsThread}}

-- what whole sections of the threads that have left, in that order, have come to
abbrev pub IsSerial : CompiledView → ℕ → List Event → RunView → Type 0
IsSerial c fuel trace serial = in_order (program_of c) (order_of trace) (begun (program_of c) fuel) ≡ Some serial

-- the store differs from the serial one only in objects that a thread in a section may write
abbrev pub OnlySectionsDiffer : CompiledView → Type 0
OnlySectionsDiffer c =
    (fuel : ℕ) (trace : List Event) (s : State) → IsRun c fuel trace s
    → (serial : RunView) × IsSerial c fuel trace serial
    × ((o : ObjectName) → NobodyWrites c s o → object_at s.store o ≡ object_at serial.store o)

-- the section that thread t is in, done from the serial store as far as it has come, has come as far with the same
-- work, and its store is the real one on all that the thread may read
pub record IsReplayed (c : CompiledView) (store : StoreView) (serial : RunView) (t : ℕ) (th : ThreadState)
    : Type 0 where
  pub frame : FrameView
  pub is_frame : slice_get serial.frames t ≡ Some frame
  pub section : ℕ
  pub body : TextView
  pub work : WorkView
  pub before : ahead (program_of c) t frame
      ≡ record { text = Section section body th.frame.text; work = work; ended = None }
  pub steps : ℕ
  pub here : StoreView
  pub done :
      replay steps (program_of c) t (record { position = Running section body; work = work; store = serial.store })
      ≡ record { position = th.position; work = th.frame.work; store = here }
  pub agrees : (o : ObjectName) → may_read c store th.held o ≡ true → object_at here o ≡ object_at store o

-- each section in progress can be replayed from the serial store
abbrev pub SectionsAreReplayed : CompiledView → Type 0
SectionsAreReplayed c =
    (fuel : ℕ) (trace : List Event) (s : State) → IsRun c fuel trace s
    → (serial : RunView) × IsSerial c fuel trace serial
    × ((t : ℕ) (th : ThreadState) → IsThread s t th → IsInSection th.position → IsReplayed c s.store serial t th)
