-- Runs of the machine.
use Rattle.std.specs.Prelude.{◌≡◌, ℕ, List, [], ◌∷◌, ◌++◌, Option, Some, map}
use Rattle.sect_types.specs.{declared.meaning.store.End.{End}, Whole.{SerialEndView}}
use Rattle.sect_world.specs.declared.event.Deed.{Deed}
use Rattle.sect_world.specs.declared.event.Deed.TheVariants.{Local, Enter, Take, Begin, Again, Act, Leave}
use Rattle.sect_world.specs.{declared.event.Event.{Event}, Events.{Happens}}
use Rattle.sect_emit.specs.{Compiled.{CompiledView}, State.{State, ThreadState, start}}

-- the events, each enabled when it comes, lead from one state to the other
abbrev pub RunsTo : CompiledView → State → List Event → State → Type 0
RunsTo c s [] after = s ≡ after
RunsTo c s (e ∷ es) after = (between : State) × Happens c s e between × RunsTo c between es after

-- the events lead from the start to the state
abbrev pub IsRun : CompiledView → ℕ → List Event → State → Type 0
IsRun c fuel trace s = RunsTo c (start c fuel) trace s

-- the thread, where it leaves a section
abbrev pub leaver : ℕ → Deed → List ℕ
leaver t Local = []
leaver t Enter = []
leaver t (Take k m) = []
leaver t Begin = []
leaver t Again = []
leaver t Act = []
leaver t Leave = t ∷ []

-- the threads of the `leave` events, in order
abbrev pub order_of : List Event → List ℕ
order_of [] = []
order_of (e ∷ es) = leaver e.thread e.deed ++ order_of es

-- how each thread has ended, if it has
abbrev pub ends_of : State → List (Option End)
ends_of s = map (λ (th : ThreadState). th.frame.ended) s.threads

-- all threads have ended, and this is what the run has come to
pub record IsComplete (s : State) (e : SerialEndView) : Type 0 where
  pub store : e.store ≡ s.store
  pub output : e.output ≡ s.output
  pub ends : ends_of s ≡ map Some e.ends
