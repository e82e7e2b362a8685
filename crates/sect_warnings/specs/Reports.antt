-- What is printed of warnings.
use Rattle.std.specs.{Prelude.{◌≡◌, ℕ, List, [], ◌∷◌, ◌++◌, map, get_or, codes, All}, List.{AllZip, flat_map}}
use Rattle.sect_front.specs.{Front.{IsSpelled, line_of}, FaultPlaces.{token_span, IsWithin}, TreeView.{TreeView}}
use Rattle.sect_front.specs.declared.span.Span.{Span}
use Rattle.sect_places.specs.{declared.name_use.NameSpan.{NameSpan}, Ranges.{item_tokens}, Spans.{span_in}}
use Rattle.sect_places.specs.Positions.{position}
use Rattle.sect_lint.specs.{Excerpts.{excerpt, margin}, Files.{place_line}, Places.{no_range}}
use Rattle.sect_emit.specs.Compiled.{CompiledView}
use Rattle.sect_warnings.specs.{declared.warning.Warning.{Warning}, declared.warning.Told.{Told}, Marks.{MarkView}}
use Rattle.sect_warnings.specs.{Labels.{IsMarkOf}, Placed.{PlacedView, behind}, Titles.{told_name, told_title}}
use Rattle.sect_warnings.specs.declared.warning.Told.TheVariants as told

-- the bytes of an item of a tree that the text spells
abbrev pub span_of : (source : List ℕ) (tree : TreeView) → IsSpelled source tree → ℕ → Span
span_of source tree spelled item =
    span_in (map token_span spelled.places) (get_or (item_tokens tree) item no_range)

-- the warning with the bytes that are marked for it, what is said of them, and what it means, by the text's names
pub record IsPlaced (source : List ℕ) (names : List NameSpan) (c : CompiledView)
    (spelled : IsSpelled source c.scheme.program.source) (w : Warning) (p : PlacedView) : Type 0
  where
    pub told : p.told ≡ told.Section w
    pub mark : MarkView
    pub marks : IsMarkOf source names c w mark
    pub span : p.span ≡ span_of source c.scheme.program.source spelled mark.item
    pub label : p.label ≡ mark.label
    pub note : p.note ≡ mark.note

-- all of them, in their order
abbrev pub ArePlaced : List ℕ → List NameSpan → CompiledView → List Warning → List PlacedView → Type 0
ArePlaced source names c ws ps =
    (spelled : IsSpelled source c.scheme.program.source) → AllZip (IsPlaced source names c spelled) ws ps

-- their bytes are bytes of a text of so many
abbrev pub AreWithin : ℕ → List PlacedView → Type 0
AreWithin total ps = All (λ (p : PlacedView). IsWithin total p.span) ps

unfoldable pub heading : Told → List ℕ
heading t = codes "warning[" ++ told_name t ++ codes "]: " ++ told_title t ++ codes "\n"

-- what it means, below a line of this number
unfoldable pub note_line : ℕ → List ℕ → List ℕ
note_line line note = codes "\n" ++ margin line ++ codes "= " ++ note ++ codes "\n"

-- the report of a warning: what is told, its place behind this mark, its line with what is said of it, and what it
-- means
abbrev pub report : List ℕ → List ℕ → PlacedView → List ℕ
report mark source p =
    heading p.told ++ place_line mark (position source p.span.start) ++ excerpt source p.span
    ++ behind (codes " ") p.label ++ note_line (line_of source p.span.start) p.note

-- one after another, with an empty line between them
abbrev pub reports : List ℕ → List ℕ → List PlacedView → List ℕ
reports mark source [] = []
reports mark source (p ∷ ps) = report mark source p ++ flat_map (λ q. codes "\n" ++ report mark source q) ps
