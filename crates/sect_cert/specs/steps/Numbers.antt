-- Numbers, and the marks that may end their word.
use Rattle.std.specs.Prelude.{ℕ, ◌+◌, ◌-◌, ◌*◌, Bool, false, ◌&&◌, ◌==◌, nat_lt, if◌then◌else◌, List, [], ◌∷◌, Option}
use Rattle.std.specs.Prelude.{Some, None, length, take, slice_get}
use Rattle.sect_front.specs.Words.{is_digit}

-- the number that digits are after a number, where it is below 2 ^ 32
abbrev pub decimal_from : ℕ → List ℕ → Option ℕ
decimal_from n [] = Some n
decimal_from n (d ∷ ds) =
    if is_digit d && nat_lt (n * 10 + (d - 48)) 4294967296 then decimal_from (n * 10 + (d - 48)) ds else None

-- the number that a word is: no zero stands before another digit
abbrev pub number_of : List ℕ → Option ℕ
number_of [] = None
number_of (d ∷ ds) = if d == 48 && nat_lt 0 (length ds) then None else decimal_from 0 (d ∷ ds)

abbrev pub is_byte : ℕ → Option ℕ → Bool
is_byte byte None = false
is_byte byte (Some b) = b == byte

-- whether a mark ends a word, and the word without it
abbrev pub ends_with : ℕ → List ℕ → Bool
ends_with mark word = is_byte mark (slice_get word (length word - 1))

abbrev pub without_end : ℕ → List ℕ → List ℕ
without_end mark word = if ends_with mark word then take (length word - 1) word else word
