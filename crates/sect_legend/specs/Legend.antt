-- What stands behind the numbers of an answer. `put_section` and `class_lines` cite it.
use Rattle.std.specs.Prelude.{◌≡◌, ◌<◌, ℕ, ◌==◌, if◌then◌else◌, List, [], ◌∷◌, ◌++◌, Option, Some, None, codes, length}
use Rattle.std.specs.Prelude.{map, option_map, slice_get, slice_index, slice_index_or}
use Rattle.std.specs.{List.{flat_map, range_with_len}, Fmt.{decimal}}
use Rattle.sect_front.specs.{Front.{line_of}, declared.span.Span.{Span}, declared.tree.GlobalObject.{GlobalObject}}
use Rattle.sect_types.specs.{Sections.{sections_of}, declared.expansion.action.Label.{Label}}
use Rattle.sect_places.specs.{Spans.{no_span}, NodeSpans.{AreNodeSpans}, declared.origin_spans.NodeSpan.{NodeSpan}}
use Rattle.sect_lint.specs.Details.{place_text}
use Rattle.sect_emit.specs.{Compiled.{CompiledView, program_of}, Explaining.{section_at}, Graphed.{graphed_nodes}}
use Rattle.sect_emit.specs.Labels.{record_name, thread_name}
use Rattle.sect_legend.specs.declared.places.Places.{Places}
use Rattle.sect_types.specs.declared.expansion.action.Action.TheVariants as action
use Rattle.sect_types.specs.declared.expansion.action.Label.TheVariants as label
use Rattle.sect_emit.specs.declared.graphs.GraphOf.TheVariants as graphed

-- what stands before the line and the column of a place, where the text has a file
abbrev pub mark_of : Places → Option (List ℕ)
mark_of of = option_map (λ mark. mark.now) of.mark

-- the places are those of the program's nodes and sections in its text
abbrev pub ArePlaced : Places → Type 0
ArePlaced of = AreNodeSpans of.source.now (program_of of.compiled.now) of.spans.now

-- where a place of a text stands: its line, or its line and column behind the mark of its file
abbrev pub spot : Option (List ℕ) → List ℕ → ℕ → List ℕ
spot None source at = codes "line " ++ decimal (line_of source at)
spot (Some mark) source at = mark ++ place_text source at

-- section i, whose `atomic` has these bytes: its thread, and where it stands
abbrev pub section_mark : CompiledView → Option (List ℕ) → List ℕ → List Span → ℕ → List ℕ
section_mark c mark source heads i =
    codes "thread " ++ thread_name (program_of c).source (section_at c i).thread ++ codes ", "
    ++ spot mark source (slice_index_or heads i no_span).start

-- of a procedure's statement the call in the thread, which begins there
abbrev pub called_text : Option (List ℕ) → List ℕ → ℕ → List ℕ
called_text mark source at = codes " (called in " ++ spot mark source at ++ codes ")"

abbrev pub call_note : Option (List ℕ) → List ℕ → Option Span → List ℕ
call_note mark source None = []
call_note mark source (Some s) = called_text mark source s.start

-- where the statement stands that a node comes from
abbrev pub made_text : Option (List ℕ) → List ℕ → NodeSpan → List ℕ
made_text mark source s = codes " made in " ++ spot mark source s.item.start ++ call_note mark source s.call

abbrev pub making : Option (List ℕ) → List ℕ → Option NodeSpan → List ℕ
making mark source None = []
making mark source (Some s) = made_text mark source s

-- of a node that does this, and comes from there, the site that it is, if it is a `new`: its record, and where that is
-- made
abbrev pub sites_by : CompiledView → Option (List ℕ) → List ℕ → Option NodeSpan → Option Label → List (List ℕ)
sites_by c mark source from (Some (label.Act (action.New x r s))) =
    (record_name (program_of c).source r ++ making mark source from) ∷ []
sites_by c mark source from _ = []

-- of the node n of section i
abbrev pub sites_at : CompiledView → Option (List ℕ) → List ℕ → List (List NodeSpan) → ℕ → ℕ → List (List ℕ)
sites_at c mark source spans i n =
    sites_by c mark source (slice_get (slice_index_or spans i []) n)
    (option_map (λ x. x.label) (slice_get (graphed_nodes c (graphed.Section i)) n))

-- of all nodes of section i
abbrev pub section_sites : CompiledView → Option (List ℕ) → List ℕ → List (List NodeSpan) → ℕ → List (List ℕ)
section_sites c mark source spans i =
    flat_map (sites_at c mark source spans i) (range_with_len 0 (length (graphed_nodes c (graphed.Section i))))

-- all sites, by number: the globals by their names, and then those of the `new` statements, which stand in sections
-- alone
abbrev pub site_names : CompiledView → Option (List ℕ) → List ℕ → List (List NodeSpan) → List (List ℕ)
site_names c mark source spans =
    map (λ (g : GlobalObject). g.name) (program_of c).source.globals
    ++ flat_map (section_sites c mark source spans) (range_with_len 0 (length (sections_of (program_of c).texts)))

-- those of a class, where each site's class is given
abbrev pub names_of_class : ℕ → List ℕ → List (List ℕ) → List (List ℕ)
names_of_class n [] names = []
names_of_class n (class ∷ classes) [] = []
names_of_class n (class ∷ classes) (name ∷ names) =
    if class == n then name ∷ names_of_class n classes names else names_of_class n classes names

-- with `, ` between them
abbrev pub listed : List (List ℕ) → List ℕ
listed [] = []
listed (name ∷ names) = name ++ flat_map (λ other. codes ", " ++ other) names

-- a class: its number, and its sites
abbrev pub class_line : List ℕ → List (List ℕ) → ℕ → List ℕ
class_line numbers names n =
    codes "class " ++ decimal n ++ codes ": " ++ listed (names_of_class n numbers names) ++ codes "\n"

-- these are the lines of all classes: each site has the number of one, and each of them a site
pub record AreClassLines (numbers : List ℕ) (names : List (List ℕ)) (bytes : List ℕ) : Type 0 where
  pub most : ℕ
  pub below : (s : ℕ) → s < length numbers → slice_index numbers s < most
  pub each : (n : ℕ) → n < most → (s : ℕ) × (slice_get numbers s ≡ Some n)
  pub printed : bytes ≡ flat_map (class_line numbers names) (range_with_len 0 most)
