-- A section as far as it has come, done again from another store.
use Rattle.std.specs.Prelude.{◌≡◌, ℕ, zero, suc, false}
use Rattle.sect_types.specs.{Programs.{ProgramView}, declared.meaning.store.ObjectName.{ObjectName}, Store.{StoreView}}
use Rattle.sect_types.specs.Meaning.{WorkView, after_change, found_at, Next, On, Off, next, looks}
use Rattle.sect_emit.specs.Compiled.{CompiledView}
use Rattle.sect_emit.specs.State.{Position, Outside, Entered, Running, Faulted, ThreadState, State, IsThread}
use Rattle.sect_world.specs.{Held.{may_write}, Excluding.{IsInSection}}

-- how far a section has come: where its thread is, what it works with, and the store
pub record Phase : Type 0 where
  pub position : Position
  pub work : WorkView
  pub store : StoreView

-- after a step in section i
abbrev pub stage_after : ℕ → ℕ → Next → StoreView → Phase
stage_after t i (On k w ch) s = record { position = Running i k; work = w; store = after_change t s ch }
stage_after t i (Off why w) s = record { position = Faulted i why; work = w; store = s }

-- one step on; where the thread is not in a section, or a fault broke it off, nothing
abbrev pub one_on : ProgramView → ℕ → Position → WorkView → StoreView → Phase
one_on p t Outside w s = record { position = Outside; work = w; store = s }
one_on p t Entered w s = record { position = Entered; work = w; store = s }
one_on p t (Running i k) w s = stage_after t i (next p t k (found_at s (looks k w)) w) s
one_on p t (Faulted i why) w s = record { position = Faulted i why; work = w; store = s }

-- the section of thread t, n steps on
abbrev pub replay : ℕ → ProgramView → ℕ → Phase → Phase
replay zero p t x = x
replay (suc n) p t x = one_on p t (replay n p t x).position (replay n p t x).work (replay n p t x).store

-- no thread in a section may write the object
abbrev pub NobodyWrites : CompiledView → State → ObjectName → Type 0
NobodyWrites c s o =
    (t : ℕ) (th : ThreadState) → IsThread s t th → IsInSection th.position → may_write c s.store th.held o ≡ false
