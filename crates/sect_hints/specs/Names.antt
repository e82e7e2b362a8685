-- Names that differ.
use Rattle.std.specs.Prelude.{◌≡◌, ℕ, false, List, Some, take, slice_get}
use Rattle.sect_types.specs.Sight.{has_name}

-- no name stands before itself
abbrev pub AreDifferent : List (List ℕ) → Type 0
AreDifferent names = (i : ℕ) (name : List ℕ) → slice_get names i ≡ Some name → has_name name (take i names) ≡ false
