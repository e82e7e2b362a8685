-- Which warnings comments allow.
use Rattle.std.specs.Prelude.{ℕ, zero, suc, ◌+◌, ◌-◌, ◌==◌, ◌&&◌, ◌||◌, not, if◌then◌else◌, Bool, true, false}
use Rattle.std.specs.Prelude.{List, [], Option, Some, None, codes, length, slice_get, drop, take_while, filter}
use Rattle.std.specs.Prelude.{fold}
use Rattle.sect_places.specs.Positions.{column_of}
use Rattle.sect_lint.specs.Excerpts.{in_line}
use Rattle.sect_warnings.specs.{Placed.{PlacedView}, Titles.{told_name}, declared.comment.Reading.{Reading}}
use Rattle.sect_warnings.specs.declared.comment.Reading.TheVariants as reading

abbrev pub comma : ℕ
comma = 44

abbrev pub slash : ℕ
slash = 47

abbrev pub closing : ℕ
closing = 41

-- a blank or a tab
abbrev pub is_blank : ℕ → Bool
is_blank byte = byte == 32 || byte == 9

-- what a comment that allows warnings begins with, but for its blanks
abbrev pub head : List ℕ
head = codes "sectc:allow("

-- the byte is this one, if there is one
abbrev pub is_byte : Option ℕ → ℕ → Bool
is_byte None byte = false
is_byte (Some other) byte = other == byte

-- so many bytes of the head stand before a byte
abbrev pub behind_head : ℕ → ℕ → Reading
behind_head n byte =
    if is_byte (slice_get head n) byte then (if n + 1 == length head then reading.Entry 0 else reading.Head (n + 1))
    else reading.Past

-- an entry ends: it is the name, or what comes behind
abbrev pub ended : Bool → Reading → Reading
ended is_name next = if is_name then reading.Found else next

-- so many bytes of the name stand before a byte, and nothing else of the entry
abbrev pub behind_entry : List ℕ → ℕ → ℕ → Reading
behind_entry name n byte =
    if byte == comma then ended (n == length name) (reading.Entry 0)
    else (if byte == closing then ended (n == length name) reading.Past
    else (if is_byte (slice_get name n) byte then reading.Entry (n + 1) else reading.Other))

-- an entry that isn't the name stands before a byte
abbrev pub behind_other : ℕ → Reading
behind_other byte =
    if byte == comma then reading.Entry 0 else (if byte == closing then reading.Past else reading.Other)

-- a line has been read so far, in search of a name, and this is its next byte, which is no blank
abbrev pub reads_on : List ℕ → Reading → ℕ → Reading
reads_on name reading.Code byte = if byte == slash then reading.Slash else reading.Code
reads_on name reading.Slash byte = if byte == slash then reading.Head 0 else reading.Code
reads_on name (reading.Head n) byte = behind_head n byte
reads_on name (reading.Entry n) byte = behind_entry name n byte
reads_on name reading.Other byte = behind_other byte
reads_on name reading.Past byte = reading.Past
reads_on name reading.Found byte = reading.Found

-- blanks are passed over
abbrev pub reads : List ℕ → Reading → ℕ → Reading
reads name so byte = if is_blank byte then so else reads_on name so byte

abbrev pub is_found : Reading → Bool
is_found reading.Found = true
is_found so = false

-- the comment of a line allows warnings of this name
abbrev pub allows : List ℕ → List ℕ → Bool
allows name line = is_found (fold (reads name) reading.Code line)

-- where the line of a place begins
abbrev pub start_of : List ℕ → ℕ → ℕ
start_of source at = at + 1 - column_of source at

-- the rest of the line from there, without its line feed
abbrev pub line_from : List ℕ → ℕ → List ℕ
line_from source start = take_while in_line (drop start source)

-- the line before the one that begins there, if there is one
abbrev pub line_before : List ℕ → ℕ → List ℕ
line_before source zero = []
line_before source (suc feed) = line_from source (start_of source feed)

-- the first byte of a line that is no blank, of those so far and one more
abbrev pub leading : Option ℕ → ℕ → Option ℕ
leading None byte = if is_blank byte then None else Some byte
leading (Some first) byte = Some first

-- a line that is a comment, behind blanks
abbrev pub is_comment : List ℕ → Bool
is_comment line = is_byte (fold leading None line) slash

-- warnings of this name are allowed at a place: by the comment of its line, or of the line before, where nothing else
-- stands there
abbrev pub is_noted : List ℕ → ℕ → List ℕ → Bool
is_noted source at name =
    allows name (line_from source (start_of source at))
    || (is_comment (line_before source (start_of source at)) && allows name (line_before source (start_of source at)))

-- of these warnings of a text those that no comment allows
abbrev pub unnoted : List ℕ → List PlacedView → List PlacedView
unnoted source ps = filter (λ (p : PlacedView). not (is_noted source p.span.start (told_name p.told))) ps
