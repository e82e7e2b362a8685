-- What taking keys makes of the runners. `ask`, `take` and `give_back` cite it.
use Rattle.std.specs.Prelude.{◌≡◌, ◌⊎◌, ⊤, ℕ, ◌+◌, ◌<◌, ◌^◌, true, false, List, [], ◌∷◌, ◌++◌, Some, map, slice_get}
use Rattle.sect_lemmas.specs.Lists.{changed_at}
use Rattle.sect_table.specs.{declared.claims.Answer.{Answer}, declared.claims.Answer.TheVariants.{Granted, Queued}}
use Rattle.sect_table.specs.{declared.claims.Grant.{Grant}, Contents.{Contents, is_waiting}, Answers.{IsAnswered}}
use Rattle.sect_emit.specs.declared.plan.Grip.{Grip}
use Rattle.sect_world.specs.{declared.event.Event.{Event}, declared.runner.Runner.{Runner}}
use Rattle.sect_world.specs.{declared.turned.Turned.{Turned}, declared.turned.Turned.TheVariants.{Moved, Waits}}
use Rattle.sect_world.specs.steps.Fits.{take_of}
use Rattle.sect_world.specs.declared.runner.Phase.TheVariants as phase
use Rattle.sect_world.specs.declared.turned.EventKind.TheVariants as kind

-- a runner that has entered, and this is the first key that it wants
pub record Wishes (r : Runner) (g : Grip) : Type 0 where
  pub entered : r.phase ≡ phase.Entered
  pub first : slice_get r.wanted.items r.taken ≡ Some g

-- it has come to hold one key more
abbrev pub advanced : Runner → Runner
advanced r = record r { taken = r.taken + 1 }

-- so has thread t
abbrev pub advanced_at : ℕ → List Runner → List Runner
advanced_at t = changed_at t advanced

-- after these grants
abbrev pub all_advanced : List Grant → List Runner → List Runner
all_advanced [] rs = rs
all_advanced (g ∷ gs) rs = all_advanced gs (advanced_at g.thread rs)

-- thread t is there, and can come to hold one key more
abbrev pub HasRoomAt : ℕ → List Runner → Type 0
HasRoomAt t rs = (r : Runner) × (slice_get rs t ≡ Some r) × (r.taken + 1 < 2 ^ 64)

-- each of these grants goes to such a thread
abbrev pub CanAdvance : List Grant → List Runner → Type 0
CanAdvance [] rs = ⊤
CanAdvance (g ∷ gs) rs = HasRoomAt g.thread rs × CanAdvance gs (advanced_at g.thread rs)

-- who comes to hold something by these grants
abbrev pub takers : List Grant → List ℕ
takers = map (λ (g : Grant). g.thread)

-- the grant to thread t of what it wants
abbrev pub grant_to : ℕ → Grip → Grant
grant_to t g = record { thread = t; key = g.key; mode = g.mode }

-- thread t asks for this: it comes to hold it by a `take` event, or nothing happens but that it waits, now or already
abbrev pub IsAsked : Answer → ℕ → Grip → List Event → List Event → List Runner → List Runner → Contents → Contents
    → Type 0
IsAsked Granted t g trace trace' rs rs' c c' =
    (trace' ≡ trace ++ take_of (grant_to t g) ∷ []) × (rs' ≡ advanced_at t rs)
    × IsAnswered Granted t g.key g.mode c c' × (is_waiting t c ≡ false)
IsAsked Queued t g trace trace' rs rs' c c' =
    (trace' ≡ trace) × (rs' ≡ rs)
    × (((is_waiting t c ≡ true) × (c' ≡ c)) ⊎ IsAnswered Queued t g.key g.mode c c')

-- what the answer to who asks makes of the turn
abbrev pub turn_by : Answer → Turned
turn_by Granted = Moved kind.Take
turn_by Queued = Waits
