-- A program that is run by whole sections, one after another. `sect_serial::serial` cites it.
use Rattle.std.specs.Prelude.{◌≡◌, ℕ, zero, suc, ◌+◌, Bool, true, false, List, [], ◌∷◌, ◌++◌, map, replicate, length}
use Rattle.std.specs.Prelude.{Option, Some, None, slice_get, slice_index_or, ℤ, if◌then◌else◌}
use Rattle.sect_types.specs.declared.declarations.types.ValueType.{ValueType}
use Rattle.sect_types.specs.declared.expansion.action.Condition.{Condition}
use Rattle.sect_types.specs.{Statements.{TextView, Stop, Do, Choose, Loop, Section}, Programs.{ProgramView}}
use Rattle.sect_types.specs.{declared.meaning.store.Fault.{Fault}, declared.meaning.store.End.{End}}
use Rattle.sect_types.specs.{declared.meaning.store.End.TheVariants.{Done, Failed}, Store.{ObjectView, StoreView}}
use Rattle.sect_types.specs.Meaning.{WorkView, Came, Went, Fell, after_change, one, looked, found_at, is_true}
use Rattle.sect_types.specs.Meaning.{first_datum, fresh, Next, On, Off, next}
use Rattle.sect_lemmas.specs.Lists.{put_at}
use Rattle.sect_types.specs.declared.meaning.store.Fault.TheVariants as fault

-- what statements leave: they are through, or broken off by a fault
pub data Left : Type 0 where
  Through : WorkView → StoreView → Left
  Broken : Fault → WorkView → StoreView → Left

abbrev pub and_then : Left → (WorkView → StoreView → Left) → Left
and_then (Through w s) go = go w s
and_then (Broken why w s) go = Broken why w s

abbrev pub left_by : ℕ → StoreView → Came → Left
left_by t s (Went w c) = Through w (after_change t s c)
left_by t s (Fell why w) = Broken why w s

abbrev pub tested : ℕ → Condition → (WorkView → StoreView → Left) → (WorkView → StoreView → Left)
    → WorkView → StoreView → Left
tested zero c good bad w s = Broken fault.Fuel w s
tested (suc n) c good bad w s =
    if is_true w.locals c then good (record w { fuel = n }) s else bad (record w { fuel = n }) s

-- a loop, at most n times round
abbrev pub turns : ℕ → Condition → (WorkView → StoreView → Left) → WorkView → StoreView → Left
turns zero c round w s = Broken fault.Fuel w s
turns (suc n) c round w s = tested w.fuel c (λ v r. and_then (round v r) (turns n c round)) Through w s

-- what statements of thread t leave, by recursion on them; a loop goes round no more often than there is fuel
abbrev pub body_of : ProgramView → ℕ → TextView → WorkView → StoreView → Left
body_of p t Stop w s = Through w s
body_of p t (Do a rest) w s = and_then (left_by t s (one p t a (found_at s (looked a w.locals)) w)) (body_of p t rest)
body_of p t (Choose c yes_part no_part rest) w s =
    and_then (tested w.fuel c (body_of p t yes_part) (body_of p t no_part) w s) (body_of p t rest)
body_of p t (Loop c part rest) w s = and_then (turns (suc w.fuel) c (body_of p t part) w s) (body_of p t rest)
body_of p t (Section i part rest) w s = body_of p t rest w s

-- what is still to run of a thread, what it works with, and how it has ended, if it has
pub record FrameView : Type 0 where
  pub text : TextView
  pub work : WorkView
  pub ended : Option End

-- a thread at the end of its text has ended
abbrev pub settled : TextView → WorkView → FrameView
settled Stop w = record { text = Stop; work = w; ended = Some Done }
settled (Do a rest) w = record { text = Do a rest; work = w; ended = None }
settled (Choose c yes_part no_part rest) w = record { text = Choose c yes_part no_part rest; work = w; ended = None }
settled (Loop c part rest) w = record { text = Loop c part rest; work = w; ended = None }
settled (Section i part rest) w = record { text = Section i part rest; work = w; ended = None }

abbrev pub failed : Fault → TextView → WorkView → FrameView
failed why text w = record { text = text; work = w; ended = Some (Failed why) }

abbrev pub frame_after : TextView → Next → FrameView
frame_after text (On rest w c) = settled rest w
frame_after text (Off why w) = failed why text w

-- one step outside sections; the objects aren't looked at there
abbrev pub local_step : ProgramView → ℕ → FrameView → FrameView
local_step p t f = frame_after f.text (next p t f.text None f.work)

abbrev pub begins_section : TextView → Bool
begins_section Stop = false
begins_section (Do a rest) = false
begins_section (Choose c yes_part no_part rest) = false
begins_section (Loop c part rest) = false
begins_section (Section i part rest) = true

abbrev pub has_ended : Option End → Bool
has_ended None = false
has_ended (Some e) = true

-- it has ended or stands before a section
abbrev pub is_standing : FrameView → Bool
is_standing f = if has_ended f.ended then true else begins_section f.text

-- at most n local steps on
abbrev pub up_to : ℕ → ProgramView → ℕ → FrameView → FrameView
up_to zero p t f = f
up_to (suc n) p t f = if is_standing f then f else up_to n p t (local_step p t f)

-- its local code is run: each step but the last, which may fail for want of it, takes a unit of fuel
abbrev pub ahead : ProgramView → ℕ → FrameView → FrameView
ahead p t f = up_to (suc f.work.fuel) p t f

-- the store, the output, and each thread between its sections
pub record RunView : Type 0 where
  pub store : StoreView
  pub output : List ℤ
  pub frames : List FrameView

-- what a section leaves of a thread whose text goes on with these statements
abbrev pub frame_left : TextView → Left → FrameView
frame_left rest (Through w s) = settled rest (record w { printed = [] })
frame_left rest (Broken why w s) = failed why rest (record w { printed = [] })

abbrev pub store_left : Left → StoreView
store_left (Through w s) = s
store_left (Broken why w s) = s

abbrev pub printed_left : Left → List ℤ
printed_left (Through w s) = w.printed
printed_left (Broken why w s) = w.printed

abbrev pub after_section : ℕ → TextView → Left → RunView → RunView
after_section t rest left s = record {
  store = store_left left;
  output = s.output ++ printed_left left;
  frames = put_at t (frame_left rest left) s.frames;
}

-- thread t, which has this text and hasn't ended, runs its next section at one stroke
abbrev pub section_by : ProgramView → ℕ → TextView → WorkView → RunView → Option RunView
section_by p t Stop w s = None
section_by p t (Do a rest) w s = None
section_by p t (Choose c yes_part no_part rest) w s = None
section_by p t (Loop c part rest) w s = None
section_by p t (Section i part rest) w s = Some (after_section t rest (body_of p t part w s.store) s)

abbrev pub section_in : ProgramView → ℕ → FrameView → RunView → Option RunView
section_in p t f s = if has_ended f.ended then None else section_by p t f.text f.work s

abbrev pub section_of_thread : ProgramView → ℕ → Option FrameView → RunView → Option RunView
section_of_thread p t None s = None
section_of_thread p t (Some f) s = section_in p t (ahead p t f) s

-- thread t runs its local code, and then its next section at one stroke; none where there is no such thread or section
abbrev pub run_section : ProgramView → ℕ → RunView → Option RunView
run_section p t s = section_of_thread p t (slice_get s.frames t) s

abbrev pub option_then : {X : Type 0} → Option X → (X → Option X) → Option X
option_then None go = None
option_then (Some x) go = go x

-- the threads of the list run a section each, one after another
abbrev pub in_order : ProgramView → List ℕ → RunView → Option RunView
in_order p [] s = Some s
in_order p (t ∷ ts) s = option_then (run_section p t s) (in_order p ts)

-- each thread's local code is run, where the first frame is that of thread t
abbrev pub all_ahead : ProgramView → ℕ → List FrameView → List FrameView
all_ahead p t [] = []
all_ahead p t (f ∷ fs) = ahead p t f ∷ all_ahead p (t + 1) fs

-- the objects of the globals, where the first is that of global g
abbrev pub global_objects : List (List ValueType) → ℕ → List ℕ → List ObjectView
global_objects records g [] = []
global_objects records g (r ∷ rs) = fresh g (slice_index_or records r []) ∷ global_objects records (g + 1) rs

-- fresh objects for the globals, and none that a thread has made
abbrev pub first_store : ProgramView → StoreView
first_store p = record { globals = global_objects p.records 0 p.globals; made = replicate (length p.texts) [] }

abbrev pub first_work : ℕ → List ValueType → WorkView
first_work fuel types = record { locals = map first_datum types; fuel = fuel; made = 0; printed = [] }

-- each thread at the start of its text
abbrev pub first_frames : ℕ → List TextView → List (List ValueType) → List FrameView
first_frames fuel [] locals = []
first_frames fuel (text ∷ texts) [] = settled text (first_work fuel []) ∷ first_frames fuel texts []
first_frames fuel (text ∷ texts) (types ∷ locals) =
    settled text (first_work fuel types) ∷ first_frames fuel texts locals

abbrev pub begun : ProgramView → ℕ → RunView
begun p fuel = record { store = first_store p; output = []; frames = first_frames fuel p.texts p.locals }

-- what a run of a program has come to: the store, the output, and how each thread has ended
pub record SerialEndView : Type 0 where
  pub store : StoreView
  pub output : List ℤ
  pub ends : List End

-- all threads have ended once their local code is run, and this is what they have come to
pub record EndsAs (p : ProgramView) (s : RunView) (e : SerialEndView) : Type 0 where
  pub store : e.store ≡ s.store
  pub output : e.output ≡ s.output
  pub ends : map (λ (f : FrameView). f.ended) (all_ahead p 0 s.frames) ≡ map Some e.ends

-- the program with this fuel, run by whole sections of the threads of this list, comes to this
abbrev pub RunsWhole : ProgramView → ℕ → List ℕ → SerialEndView → Type 0
RunsWhole p fuel order e = (s : RunView) × (in_order p order (begun p fuel) ≡ Some s) × EndsAs p s e
