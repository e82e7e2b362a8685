-- How many states there are.
use Rattle.std.proofs.Common.{◌≤◌, ℕ, arith}
use Rattle.sect_lemmas.proofs.Distinct.{no_longer}
use Rattle.sect_types.specs.Programs.{ProgramView}
use Rattle.sect_serial.specs.Exploring.{HasStates, HasMoreThan}

-- where there are so many states, there aren't more than that
pub no_more : (p : ProgramView) (fuel n most : ℕ) → HasStates p fuel n → n ≤ most → HasMoreThan p fuel most → ⊥
no_more p fuel n most all le more =
    let count = all.1 in
    let longer = more.1 in
    no_longer more.0 all.0 more.2 (λ s h. (all.3 s).1 (more.3 s h)) (omega (arith, count, longer, le))
