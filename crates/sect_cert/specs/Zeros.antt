-- Zeros that lead a number. Cited by `read_cert`, where a fault is a line's numbers.
use Rattle.std.specs.Prelude.{ℕ, Bool, true, false, not, ◌&&◌, ◌==◌, if◌then◌else◌, List, [], ◌∷◌}
use Rattle.sect_front.specs.Words.{is_digit, is_name_byte, begins}

-- a byte is a zero that leads a number: no name or number has begun before it, and a digit follows it
abbrev pub leads : Bool → ℕ → List ℕ → Bool
leads inside b bs = not inside && b == 48 && begins is_digit bs

abbrev pub plain_from : Bool → List ℕ → List ℕ
plain_from inside [] = []
plain_from inside (b ∷ bs) = if leads inside b bs then plain_from false bs else b ∷ plain_from (is_name_byte b) bs

-- a line without the zeros that lead its numbers
abbrev pub plain : List ℕ → List ℕ
plain line = plain_from false line

abbrev pub is_exact_from : Bool → List ℕ → Bool
is_exact_from inside [] = true
is_exact_from inside (b ∷ bs) = if leads inside b bs then false else is_exact_from (is_name_byte b) bs

-- no zero leads a number of a line
abbrev pub is_exact : List ℕ → Bool
is_exact line = is_exact_from false line
