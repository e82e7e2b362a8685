-- The warnings of a text that is accepted, as an editor shows them.
use Rattle.std.specs.Prelude.{◌≡◌, ℕ, List, [], ◌∷◌, ◌++◌, map, codes}
use Rattle.serde_json.specs.Data.{Data, string, object, no_members, member}
use Rattle.sect_emit.specs.Compiled.{CompiledView}
use Rattle.sect_editor.specs.Ranges.{count, list, range_json}
use Rattle.sect_warnings.specs.{Titles.{told_name, told_title}, Formats.{AreTold}, declared.warning.Told.{Told}}
use Rattle.sect_warnings.specs.Placed.{PlacedView, behind}
use Rattle.sect_warnings.specs.declared.warning.Spare.TheVariants as spare
use Rattle.sect_warnings.specs.declared.warning.Told.TheVariants as told

-- what nothing uses is shown as something that may go
abbrev pub tags : Told → List Data
tags (told.Declaration (spare.Unused what)) = count 1 ∷ []
tags _ = []

-- what is told, what is said of its bytes, and on the next line what it means
abbrev pub message_of : PlacedView → List ℕ
message_of p = told_title p.told ++ behind (codes ": ") p.label ++ codes "\n" ++ p.note

-- a warning, at some bytes
abbrev pub warning_json : List ℕ → PlacedView → Data
warning_json source p =
    object (member (codes "code") (string (told_name p.told))
    (member (codes "message") (string (message_of p))
    (member (codes "range") (range_json source p.span) (member (codes "severity") (count 2)
    (member (codes "source") (string (codes "sectc")) (member (codes "tags") (list (tags p.told)) no_members))))))

-- the warnings of the compiled program of a text that no comment allows, of its sections and then of its declarations
abbrev pub AreWarningsOf : List ℕ → CompiledView → Data → Type 0
AreWarningsOf source c value =
    (ps : List PlacedView) × AreTold source c ps × (value ≡ list (map (warning_json source) ps))
