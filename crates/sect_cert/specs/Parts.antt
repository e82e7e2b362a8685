-- The parts of a text that is cut at a byte. Cited by `read_cert`, for the lines of a text.
use Rattle.std.specs.{Prelude.{ℕ, ◌==◌, List, [], Option, Some, None}, List.{slice_split}}

-- a text, cut at each mark
abbrev pub parts : ℕ → List ℕ → List (List ℕ)
parts mark bytes = slice_split (λ b. b == mark) bytes

-- the parts that are left of a text, where some is left
abbrev pub parts_left : ℕ → Option (List ℕ) → List (List ℕ)
parts_left mark None = []
parts_left mark (Some bytes) = parts mark bytes
