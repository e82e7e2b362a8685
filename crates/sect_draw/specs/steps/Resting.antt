-- States in which all threads stand outside, and the turns of one thread from there. `run_on` cites it.
use Rattle.std.specs.Prelude.{◌≡◌, ⊤, ℕ, List, [], ◌∷◌, ◌++◌, Option, Some, None, map}
use Rattle.sect_lemmas.specs.Lists.{changed_at}
use Rattle.sect_types.specs.{Programs.{ProgramView}, Whole.{RunView, ahead, run_section}}
use Rattle.sect_emit.specs.{Compiled.{program_of}, State.{ThreadState, State, outside}}
use Rattle.sect_world.specs.{Runs.{order_of}, Worlds.{WorldView}}
use Rattle.sect_world.specs.declared.turned.{Turned.{Turned}, Turned.TheVariants.{Moved, Waits, Ended}}
use Rattle.sect_world.specs.declared.turned.EventKind.TheVariants.{Leave}

-- all threads stand outside, with the frames of this state of whole sections
abbrev pub resting : RunView → State
resting r = record { store = r.store; output = r.output; threads = map outside r.frames }

-- the store, the output and the frames of a state
abbrev pub run_of : State → RunView
run_of s = record { store = s.store; output = s.output; frames = map (λ (th : ThreadState). th.frame) s.threads }

-- all threads stand outside
abbrev pub IsResting : State → Type 0
IsResting s = s ≡ resting (run_of s)

-- what the section of a thread has come to, or the other where it has none
abbrev pub after_or : Option RunView → RunView → RunView
after_or None r = r
after_or (Some after) r = after

-- the thread, where it has had a section
abbrev pub left_by : ℕ → Option RunView → List ℕ
left_by t None = []
left_by t (Some after) = t ∷ []

-- thread t has run its local code
abbrev pub gone_ahead : ProgramView → ℕ → RunView → RunView
gone_ahead p t r =
    record { store = r.store; output = r.output; frames = changed_at t (ahead p t) r.frames }

-- and its next section, if it has one
abbrev pub gone_through : ProgramView → ℕ → RunView → RunView
gone_through p t r = after_or (run_section p t r) (gone_ahead p t r)

-- a turn behind which its thread is to make none: it has left a section, waits or has ended
abbrev pub IsLast : Turned → Type 0
IsLast (Moved k) = k ≡ Leave
IsLast Waits = ⊤
IsLast Ended = ⊤

-- thread t has gone through its local code and its next section, if it has one, while all others stood outside
pub record GoesThrough (t : ℕ) (old new : WorldView) : Type 0 where
  pub rests : new.state ≡ resting (gone_through (program_of old.compiled) t (run_of old.state))
  pub order : order_of new.trace
      ≡ order_of old.trace ++ left_by t (run_section (program_of old.compiled) t (run_of old.state))
