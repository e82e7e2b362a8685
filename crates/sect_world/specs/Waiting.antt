-- Who waits for a key, by the lock table and by the machine.
use Rattle.std.specs.Prelude.{◌≡◌, ℕ, List, map}
use Rattle.sect_lemmas.specs.Lists.{Has}
use Rattle.sect_modes.specs.{declared.mode.Mode.{Mode}, declared.key.Key.{Key}}
use Rattle.sect_table.specs.{declared.claims.Claim.{Claim}, declared.claims.Hold.{Hold}, Contents.{Entry, entry_of}}
use Rattle.sect_emit.specs.{declared.plan.Grip.{Grip}, Plan.{grip}, State.{Entered, ThreadState, State, IsThread}}
use Rattle.sect_world.specs.Blocked.{WantsFirst}

-- what the table says that a thread holds, as the machine has it
abbrev pub grips : List Hold → List Grip
grips = map (λ h. grip h.key h.mode)

-- thread t has entered and wants this key first, in this mode
abbrev pub Asks : State → ℕ → Key → Mode → Type 0
Asks s t k m = (th : ThreadState) × IsThread s t th × (th.position ≡ Entered) × WantsFirst th k m

-- who waits in the table wants that key first
abbrev pub AllWaitersAsk : State → List Entry → Type 0
AllWaitersAsk s entries = (k : Key) (w : Claim) → Has (entry_of k entries).waiters w → Asks s w.thread k w.mode
