-- Who wants a key is there.
use Rattle.std.proofs.Common.{◌≡◌, ℕ, zero, suc, ◌<◌, List, [], ◌∷◌, length, Some, arith}
use Rattle.std.specs.Prelude.{slice_get}
use Rattle.sect_lemmas.proofs.Options.{none_or_some}
use Rattle.sect_emit.specs.{State.{ThreadState, State}, declared.plan.Grip.{Grip}}
use Rattle.sect_world.specs.Sights.{first_wish, wish_in}

wishes_there : (threads : List ThreadState) (t : ℕ) (g : Grip) → wish_in (slice_get threads t) ≡ Some g
    → t < length threads
wishes_there [] t g e = absurd (none_or_some g e)
wishes_there (th ∷ threads) zero g e = omega arith
wishes_there (th ∷ threads) (suc t) g e = omega (arith, wishes_there threads t g e)

pub wisher_there : (s : State) (t : ℕ) (g : Grip) → first_wish s t ≡ Some g → t < length s.threads
wisher_there s t g e = wishes_there s.threads t g e
