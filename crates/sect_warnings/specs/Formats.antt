-- What is printed of warnings, in each form.
use Rattle.std.specs.{Prelude.{◌≡◌, ℕ, Bool, List, Option, [], ◌∷◌, ◌++◌, codes}, List.{flat_map}}
use Rattle.serde_json.specs.Written.{compact_text}
use Rattle.sect_lint.specs.declared.format.LintFormat.{LintFormat, TheVariants.{Text, Json, Sarif}}
use Rattle.sect_lint.specs.{Files.{place_mark, uri_of}, Formats.{clean}}
use Rattle.sect_emit.specs.Compiled.{CompiledView}
use Rattle.sect_warnings.specs.{declared.warning.Warning.{Warning}, Placed.{PlacedView}, Warnings.{AreWarnings}}
use Rattle.sect_warnings.specs.{Spares.{AreSpares}, Reports.{ArePlaced, reports}, Json.{warning_json}}
use Rattle.sect_warnings.specs.{Sarif.{warnings_log}, Comments.{unnoted}, Rulings.{told_by, is_refused}}
use Rattle.sect_warnings.specs.declared.ruling.Ruling.{Ruling}
use Rattle.sect_places.specs.{declared.name_use.NameSpan.{NameSpan}, NameSpans.{AreNameSpans}}

-- a warning as an object of JSON in a line
unfoldable pub json_line : List ℕ → PlacedView → List ℕ
json_line source p = compact_text (warning_json source p) ++ codes "\n"

-- some warnings of the text of this file, one after another: their reports, an object a line, or one log
abbrev pub told : LintFormat → Option (List ℕ) → List ℕ → List PlacedView → List ℕ
told Text file source ps = reports (place_mark file) source ps
told Json file source ps = flat_map (json_line source) ps
told Sarif file source ps = compact_text (warnings_log (uri_of file) source ps) ++ codes "\n"

-- where there is none, nothing is told
abbrev pub printed : LintFormat → Option (List ℕ) → List ℕ → List PlacedView → List ℕ
printed format file source [] = clean format
printed format file source (p ∷ ps) = told format file source (p ∷ ps)

-- what is worth a second look in the program of that text, with its bytes: of its sections, and then of its
-- declarations
abbrev pub AreAllPlaced : List ℕ → CompiledView → List PlacedView → Type 0
AreAllPlaced source c all =
    (ws : List Warning) × (ps : List PlacedView) × (names : List NameSpan) × (spares : List PlacedView)
    × AreWarnings c ws × ArePlaced source names c ws ps × AreNameSpans source c.scheme.program.source names
    × AreSpares c.scheme names spares × (all ≡ ps ++ spares)

-- of that what no comment allows
abbrev pub AreTold : List ℕ → CompiledView → List PlacedView → Type 0
AreTold source c told = (all : List PlacedView) × AreAllPlaced source c all × (told ≡ unnoted source all)

-- the bytes are what is printed of that, but for what these rulings allow, where the text is this file's; and this is
-- whether the text is refused for a warning that is told
abbrev pub AreWarningsPrinted : Option (List ℕ) → List ℕ → CompiledView → LintFormat → List Ruling → List ℕ → Bool
    → Type 0
AreWarningsPrinted file source c format rulings bytes refused =
    (told : List PlacedView) × AreTold source c told
    × (bytes ≡ printed format file source (told_by rulings told))
    × (refused ≡ is_refused rulings (told_by rulings told))
