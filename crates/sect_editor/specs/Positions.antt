-- Positions of the protocol in a text: a line, and units of the encoding on it, both counted from 0.
use Rattle.std.specs.Prelude.{ℕ, ◌+◌, ◌-◌, ◌==◌, ◌&&◌, ◌||◌, if◌then◌else◌, nat_lt, nat_le, List, [], ◌∷◌, take}
use Rattle.std.specs.Prelude.{drop, fold, Option, option_map, option_and_then, codes}
use Rattle.serde_json.specs.{Data.{Data}, Find.{get, as_number, as_u64}}
use Rattle.sect_front.specs.Gaps.{line_feed}
use Rattle.sect_editor.specs.declared.position.Encoding.{Encoding}
use Rattle.sect_editor.specs.{declared.position.Encoding.TheVariants.{Utf8, Utf16}, declared.position.Place.{Place}}
use Rattle.sect_editor.specs.declared.position.Range.{Range}

-- ---- in a message

-- the number of a member
abbrev pub number_in : List ℕ → Data → Option ℕ
number_in key d = option_and_then as_u64 (option_and_then as_number (get key d))

-- a position
abbrev pub place_in : Data → Option Place
place_in d =
    option_and_then (λ line. option_map (λ column. record { line = line; column = column })
    (number_in (codes "character") d)) (number_in (codes "line") d)

abbrev pub place_at : List ℕ → Data → Option Place
place_at key d = option_and_then place_in (get key d)

abbrev pub range_in : Data → Option Range
range_in d =
    option_and_then (λ start. option_map (λ end. record { start = start; end = end }) (place_at (codes "end") d))
    (place_at (codes "start") d)

-- ---- in a text

-- how many units a byte adds: each byte one, or what its character has in UTF-16, told by its first byte
abbrev pub units : Encoding → ℕ → ℕ
units Utf8 byte = 1
units Utf16 byte = if nat_le 128 byte && nat_lt byte 192 then 0 else if nat_le 240 byte then 2 else 1

-- where the line of this number begins, or the end of a text that has fewer
abbrev pub line_start : ℕ → List ℕ → ℕ
line_start line [] = 0
line_start line (b ∷ bs) = if line == 0 then 0 else line_start (if b == line_feed then line - 1 else line) bs + 1

-- how many bytes of a line have so many units at most: all of it, if it has fewer
abbrev pub bytes_of_units : Encoding → ℕ → List ℕ → ℕ
bytes_of_units encoding column [] = 0
bytes_of_units encoding column (b ∷ bs) =
    if b == line_feed || nat_lt column (units encoding b) then 0
    else bytes_of_units encoding (column - units encoding b) bs + 1

-- the byte at a position
abbrev pub offset : Encoding → Place → List ℕ → ℕ
offset encoding place text =
    line_start place.line text + bytes_of_units encoding place.column (drop (line_start place.line text) text)

-- the units on a line behind a byte, where so many stand before it
abbrev pub next_units : Encoding → ℕ → ℕ → ℕ
next_units encoding column byte = if byte == line_feed then 0 else column + units encoding byte

-- how many units stand before a byte on its line
abbrev pub units_before : Encoding → List ℕ → ℕ → ℕ
units_before encoding text at = fold (next_units encoding) 0 (take at text)
