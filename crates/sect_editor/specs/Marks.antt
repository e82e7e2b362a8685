-- What is told at the sections of a text: behind each `atomic` its locks, and above it which sections it excludes.
use Rattle.std.specs.Prelude.{◌≡◌, ℕ, ◌-◌, ◌==◌, ◌&&◌, Bool, true, false, if◌then◌else◌, nat_le, List, [], ◌∷◌, ◌++◌}
use Rattle.std.specs.Prelude.{Option, Some, None, length, slice_index_or, codes, option_and_then}
use Rattle.std.specs.{List.{flat_map, range_with_len}, Fmt.{decimal}}
use Rattle.serde_json.specs.{Data.{Data, boolean, string, object, no_members, member}, Find.{pointer}}
use Rattle.sect_front.specs.{Front.{line_of}, declared.span.Span.{Span}}
use Rattle.sect_types.specs.Sections.{sections_of}
use Rattle.sect_names.specs.Printing.{locks_text}
use Rattle.sect_places.specs.{NodeSpans.{NodeSpansView, AreNodeSpans}, Spans.{no_span}}
use Rattle.sect_emit.specs.Compiled.{CompiledView, program_of}
use Rattle.sect_conflicts.specs.{Comparing.{AreConflicts}, Conflicts.{set_at}, declared.conflict.Conflict.{Conflict}}
use Rattle.sect_conflicts.specs.declared.conflict.Conflict.TheVariants.{Always, Sometimes, Never}
use Rattle.sect_conflicts.specs.declared.conflict.SectionPair.{SectionPair}
use Rattle.sect_editor.specs.{declared.position.Range.{Range}, Positions.{range_in}}
use Rattle.sect_editor.specs.Ranges.{list, place_json, range_json}

-- the numbers of all sections
abbrev pub section_numbers : CompiledView → List ℕ
section_numbers c = range_with_len 0 (length (sections_of (program_of c).texts))

-- the bytes of the `atomic` of section i
abbrev pub head_at : NodeSpansView → ℕ → Span
head_at v i = slice_index_or v.heads i no_span

-- the lock set of section i, as `locks` prints it
abbrev pub set_text : CompiledView → ℕ → List ℕ
set_text c i = locks_text (program_of c).source (set_at c i)

-- ---- hints

-- a text behind an `atomic`
abbrev pub hint_json : List ℕ → Span → List ℕ → Data
hint_json source head text =
    object (member (codes "label") (string text) (member (codes "paddingLeft") (boolean true)
    (member (codes "position") (place_json source head.end) no_members)))

-- the range for which hints are asked, if one is told
abbrev pub hinted_range : Data → Option Range
hinted_range d = option_and_then range_in (pointer (codes "/params/range") d)

-- the line is one of the range's; without a range each is
abbrev pub is_hinted : Option Range → ℕ → Bool
is_hinted None line = true
is_hinted (Some r) line = nat_le r.start.line line && nat_le line r.end.line

-- the hint of section i, if its line is one of those
abbrev pub hints_at : CompiledView → List ℕ → NodeSpansView → Option Range → ℕ → List Data
hints_at c source v range i =
    if is_hinted range (line_of source (head_at v i).end - 1) then hint_json source (head_at v i) (set_text c i) ∷ []
    else []

-- the locks behind each `atomic` in these lines
abbrev pub AreHints : List ℕ → Option Range → CompiledView → Data → Type 0
AreHints source range c value =
    (v : NodeSpansView) × AreNodeSpans source (program_of c) v
    × (value ≡ list (flat_map (hints_at c source v range) (section_numbers c)))

-- ---- lenses

-- so many locks
abbrev pub lock_count : ℕ → List ℕ
lock_count n = if n == 0 then codes "no lock" else if n == 1 then codes "1 lock" else decimal n ++ codes " locks"

-- these sections are excluded
abbrev pub excluded_text : List ℕ → List ℕ
excluded_text [] = codes "excludes no section"
excluded_text (i ∷ []) = codes "excludes section " ++ decimal i
excluded_text (i ∷ is) = codes "excludes sections " ++ decimal i ++ flat_map (λ n. codes ", " ++ decimal n) is

-- sections exclude each other in every state, or in some
abbrev pub excludes : Conflict → Bool
excludes (Always clash) = true
excludes (Sometimes pairs) = true
excludes Never = false

-- the other one of two sections
abbrev pub partner : ℕ → SectionPair → Option ℕ
partner i p = if p.first == i then Some p.second else if p.second == i then Some p.first else None

abbrev pub excluded_in : SectionPair → Option ℕ → List ℕ
excluded_in p None = []
excluded_in p (Some j) = if excludes p.conflict then j ∷ [] else []

-- the sections that section i excludes, by what is told of pairs
abbrev pub excluded_by : List SectionPair → ℕ → List ℕ
excluded_by pairs i = flat_map (λ p. excluded_in p (partner i p)) pairs

-- a middle dot between blanks
abbrev pub dot : List ℕ
dot = 32 ∷ 194 ∷ 183 ∷ 32 ∷ []

abbrev pub lens_title : CompiledView → List SectionPair → ℕ → List ℕ
lens_title c pairs i = lock_count (length (set_at c i)) ++ dot ++ excluded_text (excluded_by pairs i)

-- a text above an `atomic`; nothing comes of choosing it
abbrev pub lens_json : List ℕ → Span → List ℕ → Data
lens_json source head title =
    object (member (codes "command") (object (member (codes "command") (string []) (member (codes "title")
    (string title) no_members))) (member (codes "range") (range_json source head) no_members))

abbrev pub lenses_at : CompiledView → List ℕ → NodeSpansView → List SectionPair → ℕ → List Data
lenses_at c source v pairs i = lens_json source (head_at v i) (lens_title c pairs i) ∷ []

-- above each `atomic` how many locks it takes, and which sections it excludes
abbrev pub AreLenses : List ℕ → CompiledView → Data → Type 0
AreLenses source c value =
    (v : NodeSpansView) × AreNodeSpans source (program_of c) v × (pairs : List SectionPair) × AreConflicts c pairs
    × (value ≡ list (flat_map (lenses_at c source v pairs) (section_numbers c)))
