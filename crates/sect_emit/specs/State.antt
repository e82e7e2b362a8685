-- The states of the machine.
use Rattle.std.specs.Prelude.{◌≡◌, ℕ, List, [], Some, map, slice_index_or, slice_get, ℤ}
use Rattle.sect_types.specs.{Statements.{TextView}, declared.meaning.store.Fault.{Fault}}
use Rattle.sect_types.specs.{declared.meaning.store.Datum.{Datum}, Store.{StoreView}}
use Rattle.sect_types.specs.Whole.{FrameView, first_store, first_frames}
use Rattle.sect_emit.specs.{declared.plan.Grip.{Grip}, Plan.{plan_of}, Compiled.{CompiledView, program_of}}
use Rattle.sect_lemmas.specs.Lists.{put_at}

-- where a thread is: outside sections; entered, when it asks for keys; running the section of that number, of which
-- this is still to run; or broken off by a fault in that section
pub data Position : Type 0 where
  Outside : Position
  Entered : Position
  Running : ℕ → TextView → Position
  Faulted : ℕ → Fault → Position

-- a thread: where it is; what is to run after the section that runs, what it works with and how it has ended; the keys
-- that it wants, in key order; the keys that it holds, in the order in which it came to hold them
pub record ThreadState : Type 0 where
  pub position : Position
  pub frame : FrameView
  pub wanted : List Grip
  pub held : List Grip

-- the store, what has been delivered, and the threads
pub record State : Type 0 where
  pub store : StoreView
  pub output : List ℤ
  pub threads : List ThreadState

-- outside, wanting and holding nothing
abbrev pub outside : FrameView → ThreadState
outside f = record { position = Outside; frame = f; wanted = []; held = [] }

-- the state in which runs start, with so much fuel for each thread
abbrev pub start : CompiledView → ℕ → State
start c fuel = record {
  store = first_store (program_of c);
  output = [];
  threads = map outside (first_frames fuel (program_of c).texts (program_of c).locals);
}

-- thread t of the state is this
abbrev pub IsThread : State → ℕ → ThreadState → Type 0
IsThread s t th = slice_get s.threads t ≡ Some th

-- the plan of section i for a thread with these locals
abbrev pub plan_at : CompiledView → ℕ → StoreView → List Datum → List Grip
plan_at c i s locals = plan_of (slice_index_or c.parts i []) (slice_index_or c.sets i []) s locals

-- the state with this in place of thread t
abbrev pub with_thread : ℕ → ThreadState → State → State
with_thread t th s = record { store = s.store; output = s.output; threads = put_at t th s.threads }
