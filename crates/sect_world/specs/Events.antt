-- What may happen in a state, and what it leads to.
use Rattle.std.specs.Prelude.{◌≡◌, ℕ, zero, suc, Bool, true, false, ◌&&◌, List, [], ◌∷◌, ◌++◌, Option, Some, None}
use Rattle.std.specs.{Prelude.{slice_index_or}, List.{list_all}}
use Rattle.sect_types.specs.{Statements.{TextView, Stop, Section}, Programs.{sites_of}}
use Rattle.sect_types.specs.{declared.meaning.store.Fault.{Fault}, Store.{StoreView}}
use Rattle.sect_types.specs.Meaning.{WorkView, Change, Unchanged, Written, Added, after_change, found_at, Next, On, Off}
use Rattle.sect_types.specs.{Meaning.{next, looks, begins_step}, Whole.{FrameView, settled, failed, local_step}}
use Rattle.sect_names.specs.Schemes.{guard_of}
use Rattle.sect_modes.specs.{declared.mode.Mode.{Mode}, declared.mode.Mode.TheVariants.{Exclusive}}
use Rattle.sect_modes.specs.{declared.key.Key.{Key}, Mode.{are_compatible}}
use Rattle.sect_emit.specs.{declared.plan.Grip.{Grip}, Plan.{grip, key_of, held_mode, meets}}
use Rattle.sect_emit.specs.Compiled.{CompiledView, program_of}
use Rattle.sect_emit.specs.State.{Position, Outside, Entered, Running, Faulted, ThreadState, State, IsThread, plan_at}
use Rattle.sect_emit.specs.State.{with_thread}
use Rattle.sect_world.specs.declared.event.Deed.{Deed}
use Rattle.sect_world.specs.declared.event.Deed.TheVariants.{Local, Enter, Take, Begin, Again, Act, Leave}
use Rattle.sect_world.specs.declared.event.Event.{Event}
use Rattle.sect_lemmas.specs.Lists.{put_at}
use Rattle.sect_types.specs.declared.meaning.store.ObjectName.TheVariants as object

-- each element but the n-th passes the test
abbrev pub all_but : {X : Type 0} → ℕ → (X → Bool) → List X → Bool
all_but n test [] = true
all_but zero test (x ∷ xs) = list_all test xs
all_but (suc n) test (x ∷ xs) = test x && all_but n test xs

-- the mode is compatible with this one, if there is one
abbrev pub lets : Option Mode → Mode → Bool
lets None m = true
lets (Some n) m = are_compatible n m

-- the mode is compatible with that in which another thread holds the key
abbrev pub lets_in : Key → Mode → ThreadState → Bool
lets_in k m other = lets (held_mode k other.held) m

-- the guard of the record of a site, if any
abbrev pub guard_at : CompiledView → ℕ → Option ℕ
guard_at c site =
    guard_of c.scheme.guards (slice_index_or (sites_of (program_of c).globals (program_of c).texts) site 0)

-- the key of a fresh object, where nothing guards its record
abbrev pub fresh_grip : Option ℕ → ℕ → ℕ → List Grip
fresh_grip None t n = grip (key_of (object.Made t n)) Exclusive ∷ []
fresh_grip (Some g) t n = []

-- the keys that thread t comes to hold by a change, where it has made n objects before
abbrev pub grips_of : CompiledView → ℕ → ℕ → Change → List Grip
grips_of c t n Unchanged = []
grips_of c t n (Written o f d) = []
grips_of c t n (Added o) = fresh_grip (guard_at c o.site) t n

-- it isn't in a section, and has not ended
abbrev pub IsFree : ThreadState → Type 0
IsFree th = (th.position ≡ Outside) × (th.frame.ended ≡ None)

-- it has entered section i, whose body and rest these are, and wants no key more
pub record IsReady (th : ThreadState) (i : ℕ) (body rest : TextView) : Type 0 where
  pub entered : th.position ≡ Entered
  pub wanted : th.wanted ≡ []
  pub text : th.frame.text ≡ Section i body rest

-- the section is at its end, or a fault has broken it off
abbrev pub IsOver : Position → Option Fault → Type 0
IsOver p None = (i : ℕ) × (p ≡ Running i Stop)
IsOver p (Some why) = (i : ℕ) × (p ≡ Faulted i why)

-- the thread as it enters a section with this plan
abbrev pub entering : List Grip → ThreadState → ThreadState
entering plan th = record th { position = Entered; wanted = plan }

-- as it comes to hold the first key that it wants, and wants the rest
abbrev pub taking : Key → Mode → List Grip → ThreadState → ThreadState
taking k m rest th = record th { wanted = rest; held = th.held ++ grip k m ∷ [] }

-- as it begins section i, and is to go on with the rest after it
abbrev pub beginning : ℕ → TextView → TextView → ThreadState → ThreadState
beginning i body rest th = record th { position = Running i body; frame = record th.frame { text = rest } }

-- as it gives all back
abbrev pub giving_back : ThreadState → ThreadState
giving_back th = record th { position = Outside; held = [] }

-- with another frame
abbrev pub with_frame : FrameView → ThreadState → ThreadState
with_frame f th = record th { frame = f }

-- a frame with other work
abbrev pub with_work : WorkView → FrameView → FrameView
with_work w f = record f { work = w }

-- thread t in the section of number i after the next step
abbrev pub acting : CompiledView → ℕ → ℕ → Next → ThreadState → ThreadState
acting c t i (On rest w change) th = record {
  position = Running i rest;
  frame = with_work w th.frame;
  wanted = th.wanted;
  held = th.held ++ grips_of c t th.frame.work.made change;
}
acting c t i (Off why w) th =
    record { position = Faulted i why; frame = with_work w th.frame; wanted = th.wanted; held = th.held }

-- the store after that step
abbrev pub changed_by : ℕ → Next → StoreView → StoreView
changed_by t (On rest w change) s = after_change t s change
changed_by t (Off why w) s = s

-- the state after the next step of thread t in section i
abbrev pub after_act : CompiledView → ℕ → ℕ → ThreadState → Next → State → State
after_act c t i th n s =
    record { store = changed_by t n s.store; output = s.output; threads = put_at t (acting c t i n th) s.threads }

-- its output is delivered
abbrev pub emptied : WorkView → WorkView
emptied w = record w { printed = [] }

-- the frame of a thread that leaves its section
abbrev pub frame_out : Option Fault → FrameView → FrameView
frame_out None f = settled f.text (emptied f.work)
frame_out (Some why) f = failed why f.text (emptied f.work)

-- the state once thread t has left its section
abbrev pub after_leave : ℕ → Option Fault → ThreadState → State → State
after_leave t how th s = record {
  store = s.store;
  output = s.output ++ th.frame.work.printed;
  threads = put_at t (with_frame (frame_out how th.frame) (giving_back th)) s.threads;
}

-- the next step of a thread in a section
abbrev pub step_in : CompiledView → ℕ → TextView → WorkView → StoreView → Next
step_in c t k w s = next (program_of c) t k (found_at s (looks k w)) w

-- thread t, which is th, may do this, and it leads to that state
abbrev pub MayDo : CompiledView → State → ℕ → ThreadState → Deed → State → Type 0
MayDo c s t th Local after =
    IsFree th × (begins_step th.frame.text ≡ true)
    × (after ≡ with_thread t (with_frame (local_step (program_of c) t th.frame) th) s)
MayDo c s t th Enter after =
    (i : ℕ) × (body : TextView) × (rest : TextView) × IsFree th × (th.frame.text ≡ Section i body rest)
    × (after ≡ with_thread t (entering (plan_at c i s.store th.frame.work.locals) th) s)
MayDo c s t th (Take k m) after =
    (rest : List Grip) × (th.position ≡ Entered) × (th.wanted ≡ grip k m ∷ rest)
    × (all_but t (lets_in k m) s.threads ≡ true)
    × (after ≡ with_thread t (taking k m rest th) s)
MayDo c s t th Begin after =
    (i : ℕ) × (body : TextView) × (rest : TextView) × IsReady th i body rest
    × (meets th.held (plan_at c i s.store th.frame.work.locals) ≡ true)
    × (after ≡ with_thread t (beginning i body rest th) s)
MayDo c s t th Again after =
    (i : ℕ) × (body : TextView) × (rest : TextView) × IsReady th i body rest
    × (meets th.held (plan_at c i s.store th.frame.work.locals) ≡ false) × (after ≡ with_thread t (giving_back th) s)
MayDo c s t th Act after =
    (i : ℕ) × (k : TextView) × (th.position ≡ Running i k) × (begins_step k ≡ true)
    × (after ≡ after_act c t i th (step_in c t k th.frame.work s.store) s)
MayDo c s t th Leave after = (how : Option Fault) × IsOver th.position how × (after ≡ after_leave t how th s)

-- the event is enabled in the first state, and leads to the second
abbrev pub Happens : CompiledView → State → Event → State → Type 0
Happens c s e after = (th : ThreadState) × IsThread s e.thread th × MayDo c s e.thread th e.deed after
