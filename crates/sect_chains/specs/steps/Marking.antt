-- Marks of numbers.
use Rattle.std.specs.Prelude.{ℕ, ◌-◌, Bool, true, false, List, ◌++◌, length, replicate, nat_lt, if◌then◌else◌}
use Rattle.std.specs.Prelude.{slice_index_or, slice_set}

-- whether the number is marked; one behind all marks isn't
abbrev pub is_marked : List Bool → ℕ → Bool
is_marked marks n = slice_index_or marks n false

-- marks with room for that of the number: where there is none, there is then one for each number below a count
abbrev pub with_room : List Bool → ℕ → ℕ → List Bool
with_room marks count n =
    if nat_lt n (length marks) then marks else marks ++ replicate (count - length marks) false

-- the number is marked too
abbrev pub with_mark : List Bool → ℕ → ℕ → List Bool
with_mark marks count n = slice_set (with_room marks count n) n true
