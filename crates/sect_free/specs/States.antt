-- States between sections, in which each thread's local code is run. `futures_are_of_states` cites it.
use Rattle.std.specs.Prelude.{◌≡◌, ℕ, List, ◌++◌, Some, map, slice_get}
use Rattle.sect_types.specs.Programs.{ProgramView}
use Rattle.sect_types.specs.Whole.{FrameView, RunView, SerialEndView, all_ahead, begun, in_order}
use Rattle.sect_types.specs.declared.meaning.store.End.TheVariants.{Failed}
use Rattle.sect_free.specs.Freely.{RunsFreely}
use Rattle.sect_types.specs.declared.meaning.store.Fault.TheVariants as fault

-- the frame has ended for want of fuel
abbrev pub FrameLacks : FrameView → Type 0
FrameLacks f = f.ended ≡ Some (Failed fault.Fuel)

-- some thread has
abbrev pub Lacks : RunView → Type 0
Lacks r = (t : ℕ) × (f : FrameView) × (slice_get r.frames t ≡ Some f) × FrameLacks f

-- the state once each thread's local code is run
abbrev pub run_on : ProgramView → RunView → RunView
run_on p r = record r { frames = all_ahead p 0 r.frames }

-- with this fuel these sections lead to this state, in which local code is run too, and no thread wants for fuel
pub record Leads (p : ProgramView) (fuel : ℕ) (order : List ℕ) (r : RunView) : Type 0 where
  pub ran : (s : RunView) × (in_order p order (begun p fuel) ≡ Some s) × (r ≡ run_on p s)
  pub lacks : Lacks r → ⊥

-- a frame and a state but for the fuel
abbrev pub bare_frame : FrameView → FrameView
bare_frame f = record f { work = record f.work { fuel = 0 } }

abbrev pub bare : RunView → RunView
bare r = record r { frames = map bare_frame r.frames }

-- where two orders lead to one state, but for the fuel, what comes freely of the one behind further sections comes of
-- the other behind the same
abbrev pub FuturesAreOfStates : Type 0
FuturesAreOfStates =
    (p : ProgramView) (before other : List ℕ) (m n : ℕ) (r q : RunView) → Leads p m before r → Leads p n other q
    → bare r ≡ bare q → (order : List ℕ) (e : SerialEndView) → RunsFreely p (before ++ order) e
    → RunsFreely p (other ++ order) e
