-- A place of a text, as it is shown: its line, and carets under its bytes.
use Rattle.std.specs.Prelude.{ℕ, ◌+◌, ◌-◌, ◌/◌, ◌%◌, ◌==◌, ◌&&◌, ◌||◌, not, nat_lt, Bool, if◌then◌else◌, min, List, []}
use Rattle.std.specs.Prelude.{◌∷◌, ◌++◌, length, take, drop, take_while, replicate, slice_index_or, codes}
use Rattle.std.specs.List.{flat_map}
use Rattle.std.specs.Fmt.{decimal}
use Rattle.sect_front.specs.{Gaps.{line_feed}, Front.{line_of}, declared.span.Span.{Span}}
use Rattle.sect_places.specs.Positions.{column_of}

abbrev pub tab : ℕ
tab = 9

-- printable ASCII
abbrev pub is_plain : ℕ → Bool
is_plain byte = nat_lt 31 byte && nat_lt byte 127

-- the digit of a number below 16
abbrev pub hexadecimal : ℕ → ℕ
hexadecimal n = if nat_lt n 10 then n + 48 else n + 87

-- a tab is shown as four blanks, and another byte that isn't plain as `\x9f`, so that no text writes control sequences
-- to a terminal
abbrev pub shown : ℕ → List ℕ
shown byte =
    if is_plain byte then byte ∷ []
    else (if byte == tab then codes "    "
    else codes "\\x" ++ hexadecimal (byte / 16) ∷ hexadecimal (byte % 16) ∷ [])

-- what stands under a byte: a mark under each of the signs that show it
abbrev pub under : List ℕ → ℕ → List ℕ
under mark byte = if is_plain byte then mark else mark ++ mark ++ mark ++ mark

-- no line feed
abbrev pub in_line : ℕ → Bool
in_line byte = not (byte == line_feed)

-- the line in which a place stands, without its line feed
abbrev pub line_text : List ℕ → ℕ → List ℕ
line_text source at = take_while in_line (drop (at + 1 - column_of source at) source)

-- the most bytes of a line that are shown
abbrev pub most_shown : ℕ
most_shown = 120

-- the first line of some bytes, as far as it may be shown
abbrev pub quotable : List ℕ → List ℕ
quotable bytes = take_while in_line (take most_shown bytes)

-- how many bytes are left out at the front of a line of so many, so that its byte of this number is shown
abbrev pub left_out : ℕ → ℕ → ℕ
left_out total place = min (place - 60) (total - most_shown)

abbrev pub dots : Bool → List ℕ → List ℕ
dots cut mark = if cut then mark else []

-- bytes without the carriage return at their end, if one stands there
abbrev pub carriage_return : ℕ
carriage_return = 13

abbrev pub without_return : List ℕ → List ℕ
without_return bytes =
    if slice_index_or bytes (length bytes - 1) 0 == carriage_return then take (length bytes - 1) bytes else bytes

-- the part of a line that is shown, where it is cut: a line that isn't may end in a carriage return, which isn't shown
abbrev pub shown_part : Bool → List ℕ → List ℕ
shown_part cut part = if cut then flat_map shown part ++ codes "..." else flat_map shown (without_return part)

-- the line
abbrev pub shown_line : List ℕ → ℕ → List ℕ
shown_line line from =
    dots (nat_lt 0 from) (codes "...")
    ++ shown_part (nat_lt (from + most_shown) (length line)) (take most_shown (drop from line))

-- one caret at least, also under a line feed
abbrev pub carets : List ℕ → List ℕ
carets [] = codes "^"
carets (b ∷ bs) = flat_map (under (codes "^")) (b ∷ bs)

-- what stands under the line, where so many bytes from this one on are marked
abbrev pub marked_line : List ℕ → ℕ → ℕ → ℕ → List ℕ
marked_line line from place count =
    dots (nat_lt 0 from) (codes "   ") ++ flat_map (under (codes " ")) (take (place - from) (drop from line))
    ++ carets (take count (drop (place - from) (take most_shown (drop from line))))

-- the blanks under a line's number
abbrev pub blanks_under : List ℕ → List ℕ
blanks_under number = replicate (length number + 1) 32

abbrev pub margin : ℕ → List ℕ
margin line = blanks_under (decimal line)

-- an empty line beside the margin, and a line of this number from this byte on
abbrev pub numbered_line : List ℕ → List ℕ → ℕ → List ℕ
numbered_line number line from =
    blanks_under number ++ codes "|\n" ++ number ++ codes " | " ++ shown_line line from ++ codes "\n"

-- a line of this number, with what stands under so many of its bytes from this column on
unfoldable pub excerpt_of : List ℕ → ℕ → List ℕ → ℕ → List ℕ
excerpt_of number column line count =
    let from : ℕ = left_out (length line) (column - 1) in
    numbered_line number line from ++ blanks_under number ++ codes "| " ++ marked_line line from (column - 1) count

-- the line of a span and what stands under it
abbrev pub excerpt : List ℕ → Span → List ℕ
excerpt source span =
    excerpt_of (decimal (line_of source span.start)) (column_of source span.start) (line_text source span.start)
    (span.end - span.start)
