-- Words on numbers.
use Rattle.std.specs.Prelude.{ℕ, zero, suc, Bool, true, false}

-- by cases, since the library's test computes on numerals alone
abbrev pub same_number : ℕ → ℕ → Bool
same_number zero zero = true
same_number zero (suc m) = false
same_number (suc n) zero = false
same_number (suc n) (suc m) = same_number n m
