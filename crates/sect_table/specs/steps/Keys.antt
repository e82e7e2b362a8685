-- Keys by their numbers.
use Rattle.std.specs.Prelude.{ℕ, suc, List, [], ◌∷◌, if◌then◌else◌}
use Rattle.sect_modes.specs.{declared.key.Key.{Key}, Key.{is_same_key}}

-- the number of a key, or how many there are
abbrev pub place_in : Key → List Key → ℕ
place_in k [] = 0
place_in k (x ∷ xs) = if is_same_key k x then 0 else suc (place_in k xs)
