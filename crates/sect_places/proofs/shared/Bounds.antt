-- The column of a place is at least 1, and at most one more than the bytes before the place.
use Rattle.std.proofs.Common.{◌≤◌, ◌+◌, ℕ, List, [], ◌∷◌, true, false, take, length, fold, ◌==◌, arith, Bool}
use Rattle.std.proofs.{Common.{if◌then◌else◌}, lemmas.List.{length-take-le}}
use Rattle.sect_front.specs.Gaps.{line_feed}
use Rattle.sect_places.specs.Positions.{next_column, column_of}

-- a byte moves on by one column at most
next_grows : (c b : ℕ) → next_column c b ≤ c + 1
next_grows c b = one (b == line_feed)
  where
    one : (is : Bool) → (if is then 1 else c + 1) ≤ c + 1
    one true = omega arith
    one false = omega arith

pub column_grows : (xs : List ℕ) (c : ℕ) → fold next_column c xs ≤ c + length xs
column_grows [] c = omega arith
column_grows (x ∷ xs) c =
    let before = column_grows xs (next_column c x) in
    omega (arith, before, next_grows c x)

column_stays : (xs : List ℕ) (c : ℕ) → 1 ≤ c → 1 ≤ fold next_column c xs
column_stays [] c first = first
column_stays (x ∷ xs) c first = column_stays xs (next_column c x) (one (x == line_feed))
  where
    one : (is : Bool) → 1 ≤ (if is then 1 else c + 1)
    one true = omega arith
    one false = omega arith

pub column_least : (xs : List ℕ) (at : ℕ) → 1 ≤ column_of xs at
column_least xs at = column_stays (take at xs) 1 (omega arith)

pub column_most : (xs : List ℕ) (at : ℕ) → at ≤ length xs → column_of xs at ≤ at + 1
column_most xs at within =
    omega (arith, column_grows (take at xs) 1, length-take-le at xs within)
