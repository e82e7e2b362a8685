-- What is asked of an open document, and what is answered.
use Rattle.std.specs.Prelude.{◌≡◌, ◌≢◌, ◌⊎◌, ℕ, Bool, false, not, ◌&&◌, ◌||◌, if◌then◌else◌, List, [], map, Option}
use Rattle.std.specs.{Prelude.{Some, None, option_and_then, nat_eq, codes}, List.{list_any}}
use Rattle.std.specs.Cmp.Lexicographic.{pointwise}
use Rattle.serde_json.specs.{Data.{Data, null, string, object, no_members, member}, Find.{pointer, as_str}}
use Rattle.sect_front.specs.{Front.{IsFault}, Words.{is_name}, declared.parsing.FrontFault.{FrontFault}}
use Rattle.sect_front.specs.declared.span.Span.{Span}
use Rattle.sect_places.specs.{NameSpans.{HasNameSpans}, declared.name_use.NameSpan.{NameSpan}}
use Rattle.sect_places.specs.declared.name_use.Role.{Role}
use Rattle.sect_places.specs.Declarations.{is_record, is_field, is_global, is_procedure, is_thread, is_local}
use Rattle.sect_editor.specs.{declared.position.Encoding.{Encoding}, declared.position.Place.{Place}}
use Rattle.sect_editor.specs.{declared.query.Query.{Query}, Positions.{offset, place_in}}
use Rattle.sect_editor.specs.{Ranges.{list, range_json, location_json}, Referring.{declared_under, uses_of}}
use Rattle.sect_front.specs.declared.parsing.FrontFault.TheVariants as front
use Rattle.sect_places.specs.declared.name_use.Thing.TheVariants as thing
use Rattle.sect_places.specs.declared.name_use.Role.TheVariants as role
use Rattle.sect_editor.specs.declared.query.Query.TheVariants as query

-- the names of a text. One that spells no tree has none
abbrev pub AreNamesOf : List ℕ → List NameSpan → Type 0
AreNamesOf source names =
    HasNameSpans source names
    ⊎ ((names ≡ []) × ((why : FrontFault) × (why ≢ front.Memory) × IsFault source why))

-- ---- a name and its declaration

-- the place that a message tells
abbrev pub place_of : Data → Option Place
place_of d = option_and_then place_in (pointer (codes "/params/position") d)

-- the declaration of the name at a place
abbrev pub declared_at : Encoding → List ℕ → List NameSpan → Option Place → Option NameSpan
declared_at encoding source names None = None
declared_at encoding source names (Some place) = declared_under names (offset encoding place source)

abbrev pub definition_json : List ℕ → List ℕ → Option NameSpan → Data
definition_json uri source None = null
definition_json uri source (Some d) = location_json uri source d.span

abbrev pub uses_by : List NameSpan → Option NameSpan → List Span
uses_by names None = []
uses_by names (Some d) = uses_of names d

abbrev pub highlight_json : List ℕ → Span → Data
highlight_json source span = object (member (codes "range") (range_json source span) no_members)

-- ---- another name

-- things of one kind have different names, fields and locals in their declaration, and a local hasn't that of a global
abbrev pub clashes : Role → Role → Bool → Bool
clashes (role.Declared thing.Record) r here = is_record r
clashes (role.Declared thing.Field) r here = here && is_field r
clashes (role.Declared thing.Global) r here = is_global r || is_local r
clashes (role.Declared thing.Procedure) r here = is_procedure r
clashes (role.Declared thing.Thread) r here = is_thread r
clashes (role.Declared thing.Local) r here = (here && is_local r) || is_global r
clashes _ r here = false

-- the name is declared where what is declared so can't have it
abbrev pub takes : NameSpan → List ℕ → NameSpan → Bool
takes d name n =
    pointwise nat_eq n.used.name name && clashes d.used.role n.used.role (nat_eq n.used.scope d.used.scope)

abbrev pub may_be_called : List NameSpan → NameSpan → List ℕ → Bool
may_be_called names d name = is_name name && not (list_any (takes d name) names)

abbrev pub edit_json : List ℕ → List ℕ → Span → Data
edit_json source name span =
    object (member (codes "newText") (string name) (member (codes "range") (range_json source span) no_members))

-- the name at all places that refer to a declaration
abbrev pub rename_json : List ℕ → List ℕ → List ℕ → List Span → Data
rename_json uri source name spans =
    object (member (codes "changes") (object (member uri (list (map (edit_json source name) spans)) no_members))
    no_members)

-- a name that is none, or is taken, is refused, and so is a place without a name
abbrev pub rename_by : List ℕ → List ℕ → List NameSpan → Option NameSpan → Option (List ℕ) → Option Data
rename_by uri source names (Some d) (Some name) =
    if may_be_called names d name then Some (rename_json uri source name (uses_of names d)) else None
rename_by uri source names _ _ = None

abbrev pub new_name : Data → Option (List ℕ)
new_name d = option_and_then as_str (pointer (codes "/params/newName") d)

-- what is answered of a text with these names, where a message tells a place whose name has that declaration
abbrev pub answer_by : Query → List ℕ → List ℕ → List NameSpan → Option NameSpan → Option (List ℕ) → Option Data
answer_by query.Definition uri source names declared name = Some (definition_json uri source declared)
answer_by query.References uri source names declared name =
    Some (list (map (location_json uri source) (uses_by names declared)))
answer_by query.Highlights uri source names declared name =
    Some (list (map (highlight_json source) (uses_by names declared)))
answer_by query.Rename uri source names declared name = rename_by uri source names declared name

-- what is answered of the text of a document
abbrev pub IsAnswer : Query → Encoding → Data → List ℕ → List ℕ → Option Data → Type 0
IsAnswer q encoding d uri source answer =
    (names : List NameSpan) × AreNamesOf source names
    × (answer ≡ answer_by q uri source names (declared_at encoding source names (place_of d)) (new_name d))
