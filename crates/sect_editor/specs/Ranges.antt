-- Places of a text, as the protocol tells them.
use Rattle.std.specs.Prelude.{ℕ, ◌-◌, List, codes}
use Rattle.serde_json.specs.{Data.{Data, number, string, array, object, unsigned, no_members, member}, View.{items_of}}
use Rattle.sect_front.specs.{Front.{line_of}, declared.span.Span.{Span}}
use Rattle.sect_places.specs.Positions.{column_of}
use Rattle.sect_characters.specs.Characters.{whole}
use Rattle.sect_editor.specs.{Positions.{units_before}, declared.position.Encoding.{Encoding}}

abbrev pub count : ℕ → Data
count n = number (unsigned n)

abbrev pub list : List Data → Data
list values = array (items_of values)

-- a line, and units of the encoding on it, both counted from 0
abbrev pub spot_json : ℕ → ℕ → Data
spot_json line units =
    object (member (codes "character") (count units) (member (codes "line") (count line) no_members))

abbrev pub stretch_json : Data → Data → Data
stretch_json start end = object (member (codes "end") end (member (codes "start") start no_members))

-- where a token begins or ends: before it there is ASCII alone on its line, so its column in bytes is that in units
abbrev pub place_json : List ℕ → ℕ → Data
place_json source at = spot_json (line_of source at - 1) (column_of source at - 1)

-- of tokens, from the first byte to behind the last
abbrev pub range_json : List ℕ → Span → Data
range_json source span = stretch_json (place_json source span.start) (place_json source span.end)

-- where any byte stands
abbrev pub point_json : Encoding → List ℕ → ℕ → Data
point_json encoding source at = spot_json (line_of source at - 1) (units_before encoding source at)

-- of some bytes, wherever they stand: the characters of which they have a part
abbrev pub characters_json : Encoding → List ℕ → Span → Data
characters_json encoding source span =
    stretch_json (point_json encoding source (whole source span).start)
    (point_json encoding source (whole source span).end)

-- tokens of a document
abbrev pub location_json : List ℕ → List ℕ → Span → Data
location_json uri source span =
    object (member (codes "range") (range_json source span) (member (codes "uri") (string uri) no_members))
