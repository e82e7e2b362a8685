-- Which stretches of a line are painted, by the line's own form.
use Rattle.std.specs.Prelude.{ℕ, ◌+◌, ◌-◌, ◌==◌, ◌||◌, ◌&&◌, Bool, not, if◌then◌else◌, nat_eq, nat_lt}
use Rattle.std.specs.Prelude.{List, [], ◌∷◌, Option, Some, None, codes, length, take, drop, slice_get, unwrap_or}
use Rattle.std.specs.{List.{position, starts_with}, Option.{option_or}}
use Rattle.sect_paint.specs.declared.{style.Style.{Style}, looks.Kind.{Kind}, looks.Look.{Look}}
use Rattle.sect_paint.specs.declared.style.Style.TheVariants.{Plain, Heading, Error, Warning, Frame, Read, Write, Make}
use Rattle.sect_paint.specs.declared.looks.Kind.TheVariants as kind

-- where these words first stand in a line, whose first byte has this place
abbrev pub found : List ℕ → ℕ → List ℕ → Option ℕ
found words place [] = None
found words place (byte ∷ line) =
    if starts_with nat_eq (byte ∷ line) words then Some place else found words (place + 1) line

-- a line that begins with a stretch of so many bytes, and has no other
abbrev pub framed : ℕ → Style → Look
framed margin frame = record { margin = margin; frame = frame; gap = 0; mark = 0; style = Plain }

-- a line of which nothing is painted
abbrev pub plain : Look
plain = framed 0 Plain

-- a line that heads others
abbrev pub headed : List ℕ → Look
headed line = framed (length line) Heading

-- a line of which so many bytes are painted from this one on, if there is one
abbrev pub marked : Option ℕ → ℕ → Style → Look → Look
marked None mark style other = other
marked (Some gap) mark style other =
    record { margin = 0; frame = Plain; gap = gap; mark = mark; style = style }

-- neither a blank nor a digit
abbrev pub is_sign : ℕ → Bool
is_sign byte = not (byte == 32) && (nat_lt byte 48 || nat_lt 57 byte)

-- how many blanks and digits a line begins with
abbrev pub margin : List ℕ → ℕ
margin line = unwrap_or (position is_sign line) (length line)

-- a mistake or a warning by its name, which ends here: the name is in the colour of the report
abbrev pub titled : Style → List ℕ → Option ℕ → Look
titled tone line None = plain
titled tone line (Some end) =
    record { margin = end + 1; frame = tone; gap = 0; mark = length line; style = Heading }

-- behind a bar a line of the text; or carets, which begin so many bytes behind it, and what is said beside them
abbrev pub barred : Style → List ℕ → ℕ → Option ℕ → Look
barred tone line behind None = framed behind Frame
barred tone line behind (Some gap) =
    record { margin = behind; frame = Frame; gap = gap; mark = length line; style = tone }

-- where carets begin behind a bar; a line of the text, which has a number, has none
abbrev pub carets : List ℕ → ℕ → Option ℕ
carets line behind =
    if starts_with nat_eq line (codes " ") then found (codes "^") 0 (drop behind line) else None

-- a line of a report, by the first byte behind its margin
abbrev pub report_line : Style → List ℕ → ℕ → Option ℕ → Look
report_line tone line margin None = plain
report_line tone line margin (Some sign) =
    if sign == 124 then barred tone line (margin + 1) (carets line (margin + 1))
    else if sign == 45 then framed (margin + 3) Frame
    else if sign == 61 then framed (margin + 1) Frame
    else titled tone line (found (codes "]") 0 line)

abbrev pub report_looks : Style → List ℕ → Look
report_looks tone line = report_line tone line (margin line) (slice_get line (margin line))

-- a lock by its first sign
abbrev pub right_style : Option ℕ → Style
right_style None = Plain
right_style (Some sign) = if sign == 82 then Read else if sign == 87 then Write else Make

-- where the column of locks begins, two blanks behind the statement
abbrev pub column : List ℕ → Option ℕ
column line = option_or (option_or (found (codes "  R ") 0 line) (found (codes "  W ") 0 line))
    (found (codes "  M ") 0 line)

-- how many bytes from this one on stand before the line of the statement
abbrev pub length_to : Option ℕ → List ℕ → ℕ → ℕ
length_to None line start = length line
length_to (Some end) line start = end - start

-- a step of a chain: its lock, from this byte on
abbrev pub step_line : List ℕ → Option ℕ → Look
step_line line None = plain
step_line line (Some blanks) =
    let start = blanks + 2 in
    marked (Some start) (length_to (found (codes " (line ") 0 line) line start) (right_style (slice_get line start))
    plain

abbrev pub explanation_looks : List ℕ → Look
explanation_looks line =
    if starts_with nat_eq line (codes "section ") then headed line
    else if starts_with nat_eq line (codes "lock ")
    then marked (Some 5) (length line) (right_style (slice_get line 5)) plain
    else step_line line (column line)

-- whether two sections exclude each other
abbrev pub pair_looks : List ℕ → Look
pair_looks line =
    marked (found (codes "exclude each other where ") 0 line) 18 Warning
    (marked (found (codes "exclude each other") 0 line) 18 Error
    (marked (found (codes "go together") 0 line) 11 Read plain))

abbrev pub conflict_looks : List ℕ → Look
conflict_looks line = if nat_eq (margin line) 0 then pair_looks line else headed line

-- what waits
abbrev pub chart_looks : List ℕ → Look
chart_looks line =
    if starts_with nat_eq line (codes "turn ") then headed line
    else marked (found (codes "waits for ") 0 line) (length line) Warning plain

-- a line of such a text, whose reports are in this colour
abbrev pub looks : Kind → Style → List ℕ → Look
looks kind.Report tone line = report_looks tone line
looks kind.Explanation tone line = explanation_looks line
looks kind.Conflicts tone line = conflict_looks line
looks kind.Chart tone line = chart_looks line

-- the colour of reports: that of warnings, where the text begins with one
abbrev pub tone : List ℕ → Style
tone text = if starts_with nat_eq text (codes "warning[") then Warning else Error
