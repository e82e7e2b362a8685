-- A state of a run against whole sections: what has left is in the serial store, and what is in a section can be
-- replayed from there.
use Rattle.std.specs.Prelude.{◌≡◌, ◌≢◌, ℕ, true, false, List, Some, None, length, slice_get}
use Rattle.sect_types.specs.{Statements.{TextView, Section}, Programs.{ProgramView}}
use Rattle.sect_types.specs.{declared.meaning.store.ObjectName.{ObjectName}, Store.{StoreView, object_at, count}}
use Rattle.sect_types.specs.{Meaning.{WorkView}, Whole.{FrameView, ahead, RunView}}
use Rattle.sect_emit.specs.{declared.plan.Grip.{Grip}, Compiled.{CompiledView, program_of}}
use Rattle.sect_emit.specs.State.{Position, Outside, Entered, Running, Faulted, ThreadState, State, IsThread}
use Rattle.sect_world.specs.{Held.{may_read, may_write}, Replay.{replay, NobodyWrites}}

-- to a thread t that holds these keys in the store, the other store is as good as the serial one
pub record Agrees (c : CompiledView) (t : ℕ) (held : List Grip) (store other serial : StoreView) : Type 0 where
  pub objects : (o : ObjectName) → may_read c store held o ≡ true → object_at other o ≡ object_at serial o
  pub own : count other t ≡ count serial t
  pub rows : length other.made ≡ length serial.made

-- the section of thread t, done from another store as far as it has come, leads to the store `here`: it is as the real
-- one on all that the thread may read, and as the other one on all that it may not write
pub record Replayed (c : CompiledView) (t : ℕ) (th : ThreadState) (store : StoreView) (i : ℕ) (body : TextView)
    (work : WorkView) (from : StoreView) : Type 0 where
  pub steps : ℕ
  pub here : StoreView
  pub done : replay steps (program_of c) t (record { position = Running i body; work = work; store = from })
      ≡ record { position = th.position; work = th.frame.work; store = here }
  pub agrees : (o : ObjectName) → may_read c store th.held o ≡ true → object_at here o ≡ object_at store o
  pub kept : (o : ObjectName) → may_write c store th.held o ≡ false → object_at here o ≡ object_at from o
  pub own : count here t ≡ count store t
  pub others : (u : ℕ) → t ≢ u → count here u ≡ count from u
  pub rows : length here.made ≡ length from.made

-- a thread outside sections, and its serial frame
pub record IsApart (p : ProgramView) (t : ℕ) (th : ThreadState) (store serial : StoreView) (f : FrameView)
    : Type 0 where
  pub frame : ahead p t f ≡ ahead p t th.frame
  pub count : count serial t ≡ count store t

-- a thread that has entered a section
pub record IsBefore (p : ProgramView) (t : ℕ) (th : ThreadState) (store serial : StoreView) (f : FrameView)
    : Type 0 where
  pub apart : IsApart p t th store serial f
  pub alive : th.frame.ended ≡ None

-- a thread in a section: the serial frame is before the section, which can be replayed from the serial store, and from
-- each store that is as good to the thread
pub record IsInside (c : CompiledView) (t : ℕ) (th : ThreadState) (store serial : StoreView) (f : FrameView)
    : Type 0 where
  pub section : ℕ
  pub body : TextView
  pub work : WorkView
  pub before : ahead (program_of c) t f
      ≡ record { text = Section section body th.frame.text; work = work; ended = None }
  pub alive : th.frame.ended ≡ None
  pub replayed : (other : StoreView) → Agrees c t th.held store other serial
      → Replayed c t th store section body work other

-- a thread and its serial frame, by where the thread is
abbrev pub Follows : CompiledView → ℕ → Position → ThreadState → StoreView → StoreView → FrameView → Type 0
Follows c t Outside th store serial f = IsApart (program_of c) t th store serial f
Follows c t Entered th store serial f = IsBefore (program_of c) t th store serial f
Follows c t (Running i k) th store serial f = IsInside c t th store serial f
Follows c t (Faulted i why) th store serial f = IsInside c t th store serial f

-- thread t has such a serial frame
abbrev pub HasFrame : CompiledView → StoreView → RunView → ℕ → ThreadState → Type 0
HasFrame c store serial t th =
    (f : FrameView) × (slice_get serial.frames t ≡ Some f) × Follows c t th.position th store serial.store f

-- the sections that have left, run whole in their order, have come to this
pub record Serializes (c : CompiledView) (s : State) (serial : RunView) : Type 0 where
  pub output : s.output ≡ serial.output
  pub rows : length s.store.made ≡ length serial.store.made
  pub threads : length s.threads ≡ length serial.frames
  pub each : (t : ℕ) (th : ThreadState) → IsThread s t th → HasFrame c s.store serial t th
  pub store : (o : ObjectName) → NobodyWrites c s o → object_at s.store o ≡ object_at serial.store o
