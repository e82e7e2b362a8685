-- What the parts of a world stand for. `World` and `Moment` cite it.
use Rattle.std.specs.Prelude.{◌≡◌, ⊤, ℕ, ◌<◌, ◌≤◌, ℤ, List, [], ◌∷◌, Option, Some, None, length, drop, slice_get}
use Rattle.std.specs.Prelude.{slice_index_or}
use Rattle.sect_types.specs.{Statements.{TextView, Stop}, Sections.{SectionView, sections_of}, Store.{StoreView}}
use Rattle.sect_types.specs.{Whole.{FrameView, settled, first_work}, declared.meaning.store.End.{End}}
use Rattle.sect_types.specs.{declared.meaning.store.Fault.{Fault}, Meaning.{WorkView}}
use Rattle.sect_graph.specs.Rests.{rest_at}
use Rattle.sect_table.specs.{declared.claims.Hold.{Hold}, Contents.{Contents}, Sound.{IsKept as IsTableKept}}
use Rattle.sect_emit.specs.Compiled.{CompiledView, IsCompiled, program_of}
use Rattle.sect_emit.specs.State.{Position, Outside, Entered, Running, Faulted, ThreadState, State, outside}
use Rattle.sect_world.specs.{declared.event.Event.{Event}, declared.runner.Phase.{Phase}}
use Rattle.sect_world.specs.{declared.runner.Runner.{Runner}, Runs.{IsRun, order_of}, Events.{frame_out, emptied}}
use Rattle.sect_world.specs.{Worlds.{WorldView}, Waiting.{grips, AllWaitersAsk}}
use Rattle.sect_world.specs.declared.runner.Phase.TheVariants as phase

abbrev pub body_in : Option SectionView → TextView
body_in None = Stop
body_in (Some s) = s.body

-- the body of a section
abbrev pub body_at : CompiledView → ℕ → TextView
body_at c i = body_in (slice_get (sections_of (program_of c).texts) i)

abbrev pub position_of : CompiledView → Phase → Position
position_of c phase.Outside = Outside
position_of c phase.Entered = Entered
position_of c (phase.Running i j) = Running i (rest_at (body_at c i) j)
position_of c (phase.Faulted i why) = Faulted i why

-- the frame of a thread with this text
abbrev pub frame_of : TextView → Runner → FrameView
frame_of text r = record { text = rest_at text r.node; work = r.work; ended = r.ended }

-- a thread that comes out of a section has ended so, where the rest of its text is this
abbrev pub EndsSo : Option Fault → TextView → Option End → Type 0
EndsSo how rest end =
    (w : WorkView) (before : Option End) → frame_out how (record { text = rest; work = w; ended = before })
    ≡ record { text = rest; work = emptied w; ended = end }

-- a thread with this text, which holds these keys
abbrev pub thread_of : CompiledView → TextView → Runner → List Hold → ThreadState
thread_of c text r hs = record {
  position = position_of c r.phase;
  frame = frame_of text r;
  wanted = drop r.taken r.wanted.items;
  held = grips hs;
}

-- a thread at the start of this text has ended so, if it has
abbrev pub BeginsSo : TextView → Option End → Type 0
BeginsSo text end =
    (w : WorkView) → record { text = rest_at text 0; work = w; ended = end } ≡ settled text w

-- a thread of this number and text at the start of its text
abbrev pub first_thread : CompiledView → ℕ → ℕ → TextView → ThreadState
first_thread c fuel t text = outside (settled text (first_work fuel (slice_index_or (program_of c).locals t [])))

-- it stands for thread t at its start
pub record IsFirst (c : CompiledView) (fuel : ℕ) (t : ℕ) (r : Runner) : Type 0 where
  pub phase : r.phase ≡ phase.Outside
  pub thread : (text : TextView) → slice_get (program_of c).texts t ≡ Some text
      → thread_of c text r [] ≡ first_thread c fuel t text

-- each stands for the thread of its number at its start
abbrev pub AreFirst : CompiledView → ℕ → List Runner → Type 0
AreFirst c fuel rs = (t : ℕ) (r : Runner) → slice_get rs t ≡ Some r → IsFirst c fuel t r

abbrev pub threads_of : CompiledView → List TextView → List Runner → List (List Hold) → List ThreadState
threads_of c [] rs held = []
threads_of c (text ∷ texts) [] held = []
threads_of c (text ∷ texts) (r ∷ rs) [] = []
threads_of c (text ∷ texts) (r ∷ rs) (hs ∷ held) = thread_of c text r hs ∷ threads_of c texts rs held

abbrev pub state_of : CompiledView → StoreView → List ℤ → List Runner → List (List Hold) → State
state_of c store output rs held =
    record { store = store; output = output; threads = threads_of c (program_of c).texts rs held }

-- a world of these parts, which has let in these threads
abbrev pub shown : CompiledView → ℕ → List Event → List ℕ → StoreView → List ℤ → List Runner → List (List Hold) → List ℕ
    → WorldView
shown c fuel trace order store output rs held granted = record {
  compiled = c;
  fuel = fuel;
  trace = trace;
  order = order;
  state = state_of c store output rs held;
  granted = granted;
}

-- the section that it runs is one of the program
abbrev pub IsSited : CompiledView → Phase → Type 0
IsSited c phase.Outside = ⊤
IsSited c phase.Entered = ⊤
IsSited c (phase.Running i j) = i < length (sections_of (program_of c).texts)
IsSited c (phase.Faulted i why) = ⊤

-- what holds of the parts of a world: the events lead from the start to its state, the order is theirs, and who waits
-- in the table wants that key first
pub record IsWorld (c : CompiledView) (fuel : ℕ) (trace : List Event) (order : List ℕ) (store : StoreView)
    (output : List ℤ) (rs : List Runner) (table : Contents) : Type 0 where
  pub compiled : IsCompiled c
  pub run : IsRun c fuel trace (state_of c store output rs table.held)
  pub ordered : order ≡ order_of trace
  pub as_many : length rs ≡ length (program_of c).texts
  pub as_many_held : length table.held ≡ length (program_of c).texts
  pub sited : (t : ℕ) (r : Runner) → slice_get rs t ≡ Some r → IsSited c r.phase
  pub waits : AllWaitersAsk (state_of c store output rs table.held) table.entries
  pub tabled : IsTableKept table

-- there is room for the grants to n threads, for whom they let in, and for their ends
abbrev pub HasRoom : ℕ → ℕ → ℕ → ℕ → Type 0
HasRoom n grants granted ends = (n ≤ grants) × (n ≤ granted) × (n ≤ ends)
