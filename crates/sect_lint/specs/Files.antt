-- The name of a text's file, as a report and a log have it. A text on standard input has none.
use Rattle.std.specs.Prelude.{ℕ, ◌/◌, ◌%◌, ◌+◌, ◌==◌, ◌||◌, ◌&&◌, nat_lt, Bool, if◌then◌else◌, List, [], ◌∷◌, ◌++◌}
use Rattle.std.specs.{Prelude.{Option, Some, None, codes}, List.{flat_map, list_any}}
use Rattle.sect_places.specs.declared.position.Position.{Position}
use Rattle.sect_lint.specs.{Excerpts.{shown}, Details.{position_text}}

-- a control sign of ASCII
abbrev pub is_control : ℕ → Bool
is_control byte = nat_lt byte 32 || byte == 127

-- a name with control signs is shown as a line is, so that none writes control sequences to a terminal
abbrev pub shown_name : List ℕ → List ℕ
shown_name name = if list_any is_control name then flat_map shown name else name

-- what stands before the line and the column of a place
abbrev pub place_mark : Option (List ℕ) → List ℕ
place_mark None = []
place_mark (Some name) = shown_name name ++ codes ":"

-- the line that says where a place stands, behind its mark
abbrev pub place_line : List ℕ → Position → List ℕ
place_line mark p = codes " --> " ++ mark ++ position_text p ++ codes "\n"

-- a sign that stands for itself in the path of a URI
abbrev pub is_in_path : ℕ → Bool
is_in_path byte =
    (nat_lt 44 byte && nat_lt byte 58) || (nat_lt 64 byte && nat_lt byte 91) || (nat_lt 96 byte && nat_lt byte 123)
    || byte == 95 || byte == 126

-- the digit of a number below 16
abbrev pub uri_digit : ℕ → ℕ
uri_digit n = if nat_lt n 10 then n + 48 else n + 55

-- a byte in the path of a URI
abbrev pub in_path : ℕ → List ℕ
in_path byte =
    if is_in_path byte then byte ∷ [] else codes "%" ++ uri_digit (byte / 16) ∷ uri_digit (byte % 16) ∷ []

-- what stands before a path: one from the root is that of a file, and another is relative
abbrev pub scheme_of : List ℕ → List ℕ
scheme_of [] = []
scheme_of (byte ∷ path) = if byte == 47 then codes "file://" else []

-- the URI of a text
abbrev pub uri_of : Option (List ℕ) → List ℕ
uri_of None = codes "stdin"
uri_of (Some name) = scheme_of name ++ flat_map in_path name
