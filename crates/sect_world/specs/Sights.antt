-- What is told of a thread of a state. The methods of `World` cite it.
use Rattle.std.specs.Prelude.{ℕ, [], Option, Some, None, slice_get}
use Rattle.sect_types.specs.{declared.meaning.store.End.{End}, Meaning.{WorkView}}
use Rattle.sect_modes.specs.{declared.mode.Mode.{Mode}, declared.key.Key.{Key}}
use Rattle.sect_emit.specs.{declared.plan.Grip.{Grip}, Plan.{held_mode}, State.{ThreadState, State}}

abbrev pub wish_in : Option ThreadState → Option Grip
wish_in None = None
wish_in (Some th) = slice_get th.wanted 0

-- the key that a thread wants first, and its mode
abbrev pub first_wish : State → ℕ → Option Grip
first_wish s t = wish_in (slice_get s.threads t)

abbrev pub mode_in : Key → Option ThreadState → Option Mode
mode_in k None = None
mode_in k (Some th) = held_mode k th.held

-- the mode in which a thread holds a key
abbrev pub mode_of : State → ℕ → Key → Option Mode
mode_of s t k = mode_in k (slice_get s.threads t)

abbrev pub end_in : Option ThreadState → Option End
end_in None = None
end_in (Some th) = th.frame.ended

-- how a thread has ended, if it has
abbrev pub end_of : State → ℕ → Option End
end_of s t = end_in (slice_get s.threads t)

abbrev pub work_in : Option ThreadState → WorkView
work_in None = record { locals = []; fuel = 0; made = 0; printed = [] }
work_in (Some th) = th.frame.work

-- what a thread works with
abbrev pub work_of : State → ℕ → WorkView
work_of s t = work_in (slice_get s.threads t)
