-- Characters of a text in UTF-8, each of which is told by its first byte.
use Rattle.std.specs.Prelude.{ℕ, zero, suc, ◌+◌, ◌==◌, ◌&&◌, Bool, if◌then◌else◌, nat_le, nat_lt, List, length, take}
use Rattle.std.specs.Prelude.{drop, take_while, fold, get_or}
use Rattle.sect_front.specs.{Gaps.{line_feed}, declared.span.Span.{Span}}

-- a byte of a character behind its first
abbrev pub is_inner : ℕ → Bool
is_inner byte = nat_le 128 byte && nat_lt byte 192

-- the first byte of the character to which the byte at a place belongs
abbrev pub first_byte : List ℕ → ℕ → ℕ
first_byte source zero = zero
first_byte source (suc n) = if is_inner (get_or source (suc n) 0) then first_byte source n else suc n

-- behind the last byte of the character to which the byte before a place belongs
abbrev pub behind_last : List ℕ → ℕ → ℕ
behind_last source at = at + length (take_while is_inner (drop at source))

-- the characters of which these bytes have a part
abbrev pub whole : List ℕ → Span → Span
whole source span = record { start = first_byte source span.start; end = behind_last source span.end }

-- the column behind a byte that stands in this column, where characters are counted
abbrev pub next_column : ℕ → ℕ → ℕ
next_column column byte = if byte == line_feed then 1 else if is_inner byte then column else column + 1

-- the column of a place, in characters: one plus those that begin behind the last line feed before it
abbrev pub character_column : List ℕ → ℕ → ℕ
character_column source at = fold next_column 1 (take at source)
