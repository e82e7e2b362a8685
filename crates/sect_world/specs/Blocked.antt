-- Threads that are blocked, and states that are stuck.
use Rattle.std.specs.Prelude.{◌≡◌, ◌⊎◌, ◌≢◌, ℕ, false, true, List, ◌∷◌, Some}
use Rattle.sect_modes.specs.{declared.mode.Mode.{Mode}, declared.key.Key.{Key}, Mode.{are_compatible}}
use Rattle.sect_emit.specs.{declared.plan.Grip.{Grip}, Plan.{grip, held_mode}, Compiled.{CompiledView}}
use Rattle.sect_emit.specs.State.{State, ThreadState, IsThread}
use Rattle.sect_world.specs.{declared.event.Event.{Event}, Events.{Happens}}
use Rattle.sect_types.specs.Whole.{has_ended}

-- this is the first key that the thread wants, in this mode
abbrev pub WantsFirst : ThreadState → Key → Mode → Type 0
WantsFirst th k m = (rest : List Grip) × (th.wanted ≡ grip k m ∷ rest)

-- a thread wants a key first, and it or another thread that wants this key first finds that one other than itself holds
-- it in a mode that isn't compatible
pub record IsBlocked (s : State) (th : ThreadState) : Type 0 where
  pub key : Key
  pub mode : Mode
  pub first : WantsFirst th key mode
  pub asker : ℕ
  pub asking : ThreadState
  pub asker_is : IsThread s asker asking
  pub asked : Mode
  pub asks : WantsFirst asking key asked
  pub holder : ℕ
  pub holding : ThreadState
  pub holder_is : IsThread s holder holding
  pub other : holder ≢ asker
  pub held : Mode
  pub holds : held_mode key holding.held ≡ Some held
  pub against : are_compatible held asked ≡ false

-- some thread hasn't ended, and each has ended or is blocked
pub record IsStuck (s : State) : Type 0 where
  pub some : ℕ
  pub some_thread : ThreadState
  pub some_is : IsThread s some some_thread
  pub alive : has_ended some_thread.frame.ended ≡ false
  pub each : (t : ℕ) (th : ThreadState) → IsThread s t th → (has_ended th.frame.ended ≡ true) ⊎ IsBlocked s th

-- some event is enabled
abbrev pub CanGoOn : CompiledView → State → Type 0
CanGoOn c s = (e : Event) × (after : State) × Happens c s e after
