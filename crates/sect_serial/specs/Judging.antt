-- What the run of a program by whole sections comes to, and when it is refused. `serial` and `SerialEnd` cite it.
use Rattle.std.specs.Prelude.{◌≡◌, ◌<◌, ⊤, ℕ, false, List, ◌∷◌, ◌++◌, Option, Some, None, Result, Ok, Err, map}
use Rattle.std.specs.Prelude.{slice_get}
use Rattle.sect_types.specs.Programs.{ProgramView}
use Rattle.sect_types.specs.Whole.{FrameView, RunView, SerialEndView, ahead, has_ended, run_section, in_order, begun}
use Rattle.sect_types.specs.{Whole.{RunsWhole}, declared.meaning.store.End.{End}}
use Rattle.sect_store.specs.Outcomes.{OutcomeView}
use Rattle.sect_serial.specs.declared.whole.SerialFault.{SerialFault}
use Rattle.sect_serial.specs.declared.whole.SerialFault.TheVariants.{Memory, NoSection, SectionsLeft}

-- t is the first number of the order that is no thread, or a thread that has no section next
abbrev pub StopsAt : ProgramView → ℕ → List ℕ → ℕ → Type 0
StopsAt p fuel order t =
    (before : List ℕ) × (after : List ℕ) × (s : RunView)
    × (order ≡ before ++ t ∷ after) × (in_order p before (begun p fuel) ≡ Some s) × (run_section p t s ≡ None)

-- thread t is there and has a section left
abbrev pub HasSectionLeft : ProgramView → ℕ → Option FrameView → Type 0
HasSectionLeft p t None = ⊥
HasSectionLeft p t (Some f) = has_ended (ahead p t f).ended ≡ false

-- t is the least thread with a section left
abbrev pub IsLeastLeft : ProgramView → RunView → ℕ → Type 0
IsLeastLeft p s t =
    HasSectionLeft p t (slice_get s.frames t) × ((u : ℕ) → u < t → HasSectionLeft p u (slice_get s.frames u) → ⊥)

-- the order runs, and t is the least thread with a section left
abbrev pub LeavesSections : ProgramView → ℕ → List ℕ → ℕ → Type 0
LeavesSections p fuel order t =
    (s : RunView) × (in_order p order (begun p fuel) ≡ Some s) × IsLeastLeft p s t

-- the order is refused so
abbrev pub IsDue : ProgramView → ℕ → List ℕ → SerialFault → Type 0
IsDue p fuel order (NoSection t) = StopsAt p fuel order t
IsDue p fuel order (SectionsLeft t) = LeavesSections p fuel order t
IsDue p fuel order Memory = ⊥

-- the end that was asked for, a refusal that is due, or want of memory
abbrev pub Judges : ProgramView → ℕ → List ℕ → Result SerialEndView SerialFault → Type 0
Judges p fuel order (Ok e) = RunsWhole p fuel order e
Judges p fuel order (Err (NoSection t)) = StopsAt p fuel order t
Judges p fuel order (Err (SectionsLeft t)) = LeavesSections p fuel order t
Judges p fuel order (Err Memory) = ⊤

-- this end is given, unless memory ran out
abbrev pub Gives : SerialEndView → Result SerialEndView SerialFault → Type 0
Gives e (Ok given) = given ≡ e
Gives e (Err Memory) = ⊤
Gives e (Err (NoSection t)) = ⊥
Gives e (Err (SectionsLeft t)) = ⊥

-- this refusal is given, unless memory ran out
abbrev pub Refuses : SerialFault → Result SerialEndView SerialFault → Type 0
Refuses why (Ok e) = ⊥
Refuses why (Err Memory) = ⊤
Refuses why (Err (NoSection t)) = why ≡ NoSection t
Refuses why (Err (SectionsLeft t)) = why ≡ SectionsLeft t

-- an end as the outcome of a run, with the order of its sections
abbrev pub outcome_of : List ℕ → SerialEndView → OutcomeView
outcome_of order e =
    record { ends = map (λ (end : End). Some end) e.ends; order = order; output = e.output; store = e.store }
