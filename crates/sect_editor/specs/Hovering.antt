-- What is told of the place under the pointer: of a name what it is, of an `atomic` its locks and why they are needed,
-- of a statement of a section the locks that are needed from there on.
use Rattle.std.specs.Prelude.{◌≡◌, ◌<◌, ℕ, ◌-◌, ◌&&◌, Bool, true, false, if◌then◌else◌, nat_lt, nat_le, List, [], ◌∷◌}
use Rattle.std.specs.Prelude.{nat_eq, ◌++◌, Option, Some, None, filter, length, slice_get, slice_index_or, codes, zero}
use Rattle.std.specs.{Prelude.{suc}, List.{flat_map, list_any, count_by, range_with_len}, Fmt.{decimal}}
use Rattle.serde_json.specs.Data.{Data, null, string, object, no_members, member}
use Rattle.sect_front.specs.declared.span.Span.{Span}
use Rattle.sect_types.specs.{Programs.{sites_of}, Sections.{sections_of}}
use Rattle.sect_graph.specs.Layout.{flow_nodes}
use Rattle.sect_points.specs.Sets.{PointsToView, InSets}
use Rattle.sect_infer.specs.Sets.{AreNeeded}
use Rattle.sect_names.specs.{declared.link.Link.{Link}, declared.lock.Lock.{Lock}, Needed.{end_of}}
use Rattle.sect_names.specs.Printing.{locks_text}
use Rattle.sect_places.specs.{declared.lines.NodeLine.{NodeLine}, declared.name_use.NameSpan.{NameSpan}}
use Rattle.sect_places.specs.{declared.name_use.Role.{Role}, declared.origin_spans.NodeSpan.{NodeSpan}}
use Rattle.sect_places.specs.{Declarations.{is_record, is_global, is_thread, does_in}, NameSpans.{AreNameSpans}}
use Rattle.sect_places.specs.{NodeLines.{AreNodeLines}, NodeSpans.{NodeSpansView, AreNodeSpans}}
use Rattle.sect_emit.specs.Compiled.{CompiledView, program_of}
use Rattle.sect_emit.specs.Explaining.{IsChained, section_at, section_deed, section_explained}
use Rattle.sect_conflicts.specs.Conflicts.{Selects}
use Rattle.sect_editor.specs.{declared.objects.Referrer.{Referrer}, Marks.{head_at, set_text}}
use Rattle.sect_editor.specs.Referring.{declared_under, type_by}
use Rattle.sect_points.specs.declared.holders.Holder.TheVariants as holder
use Rattle.sect_places.specs.declared.name_use.Role.TheVariants as role
use Rattle.sect_places.specs.declared.name_use.Thing.TheVariants as thing
use Rattle.sect_editor.specs.declared.objects.Referrer.TheVariants as referrer

-- a place stands at some bytes, or right behind them
abbrev pub touches_span : ℕ → Span → Bool
touches_span at s = nat_le s.start at && nat_le at s.end

-- the first number below this one that passes a test, if one does
abbrev pub IsFirst : (ℕ → Bool) → ℕ → Option ℕ → Type 0
IsFirst test count None = (n : ℕ) → n < count → test n ≡ false
IsFirst test count (Some n) = (n < count) × (test n ≡ true) × ((m : ℕ) → m < n → test m ≡ false)

-- lines of code
abbrev pub fenced : List ℕ → List ℕ
fenced lines = codes "```\n" ++ lines ++ codes "```\n"

-- ---- names

-- a declaration has the type of a record, or else `int`
abbrev pub type_text : Option NameSpan → List ℕ
type_text None = codes "int"
type_text (Some t) = t.used.name

-- what stands before the name that is declared
abbrev pub kind_text : List NameSpan → NameSpan → Role → List ℕ
kind_text names d (role.Declared thing.Record) = codes "record"
kind_text names d (role.Declared thing.Procedure) = codes "proc"
kind_text names d (role.Declared thing.Thread) = codes "thread"
kind_text names d (role.Declared thing.Global) = codes "global " ++ type_text (type_by names (Some d))
kind_text names d r = type_text (type_by names (Some d))

abbrev pub declaration_line : List NameSpan → NameSpan → List ℕ
declaration_line names d = kind_text names d d.used.role ++ codes " " ++ d.used.name ++ codes "\n"

-- how many such declarations stand before this item
abbrev pub declared_before : (Role → Bool) → ℕ → List NameSpan → ℕ
declared_before does item names = count_by (λ n. does n.used.role && nat_lt n.used.item item) names

-- a global is called by its number, a field of a record and a local of a thread by both of theirs; nothing else refers
-- to objects
abbrev pub referrer_by : List NameSpan → NameSpan → Role → Referrer
referrer_by names d (role.Declared thing.Global) = referrer.Global (declared_before is_global d.used.item names)
referrer_by names d (role.Declared thing.Field) =
    referrer.Field (declared_before is_record d.used.scope names) (d.used.item - d.used.scope - 1)
referrer_by names d (role.Declared thing.Local) =
    if list_any (does_in is_thread d.used.scope) names
    then referrer.Local (declared_before is_thread d.used.scope names) (d.used.item - d.used.scope - 1)
    else referrer.Nothing
referrer_by names d r = referrer.Nothing

-- the record of each site
abbrev pub record_numbers : CompiledView → List ℕ
record_numbers c = sites_of (program_of c).globals (program_of c).texts

-- it may refer to objects of this site: a global to its own, a local to those of its set, and a field of a record to
-- those of its set at any site of that record
abbrev pub RefersTo : List ℕ → PointsToView → Referrer → ℕ → Type 0
RefersTo records sets (referrer.Global g) s = s ≡ g
RefersTo records sets (referrer.Local u x) s = InSets sets (holder.Local u x) s
RefersTo records sets (referrer.Field r f) s =
    (o : ℕ) × (slice_get records o ≡ Some r) × InSets sets (holder.Slot o f) s
RefersTo records sets referrer.Nothing s = ⊥

-- those sites, in their order
abbrev pub AreSitesOf : List ℕ → PointsToView → Referrer → List ℕ → Type 0
AreSitesOf records sets r sites = Selects (RefersTo records sets r) (range_with_len 0 sets.sites) sites

-- those of them that are in class n
abbrev pub sites_in : List ℕ → ℕ → List ℕ → List ℕ
sites_in numbers n sites = filter (λ s. nat_eq (slice_index_or numbers s 0) n) sites

-- a class and its sites, where there are some
abbrev pub class_line : ℕ → List ℕ → List ℕ
class_line n [] = []
class_line n (s ∷ ss) =
    codes "class " ++ decimal n ++ codes ", sites " ++ decimal s ++ flat_map (λ m. codes ", " ++ decimal m) ss
    ++ codes "\n"

-- the sites by their classes, of which there are no more than sites
abbrev pub class_lines : List ℕ → List ℕ → List ℕ
class_lines numbers sites =
    flat_map (λ n. class_line n (sites_in numbers n sites)) (range_with_len 0 (length numbers))

-- what is told of the declaration that a name refers to, if there is one
abbrev pub IsNameTold : CompiledView → List NameSpan → Option NameSpan → List ℕ → Type 0
IsNameTold c names None text = text ≡ []
IsNameTold c names (Some d) text =
    (sites : List ℕ) × AreSitesOf (record_numbers c) c.scheme.classes.sets (referrer_by names d d.used.role) sites
    × (text ≡ fenced (declaration_line names d ++ class_lines c.scheme.classes.numbers sites))

-- ---- sections

-- the `atomic` of a section stands at a place
abbrev pub is_head_under : NodeSpansView → ℕ → ℕ → Bool
is_head_under v at i = touches_span at (head_at v i)

-- the lock set of a section, and the lines of `explain`
abbrev pub IsSectionTold : List ℕ → CompiledView → Option ℕ → List ℕ → Type 0
IsSectionTold source c None text = text ≡ []
IsSectionTold source c (Some i) text =
    (lines : List (List NodeLine)) × AreNodeLines source (program_of c) lines
    × (chains : List (List Link)) × IsChained c i chains
    × (text ≡ codes "Locks: " ++ set_text c i ++ codes "\n\n" ++ fenced (section_explained c lines i chains))

-- ---- statements

-- a statement stands at a place
abbrev pub is_statement_under : ℕ → Option NodeSpan → Bool
is_statement_under at None = false
is_statement_under at (Some s) = touches_span at s.item

-- that of a node of section i
abbrev pub is_node_under : NodeSpansView → ℕ → ℕ → ℕ → Bool
is_node_under v at i n = is_statement_under at (slice_get (slice_index_or v.sections i []) n)

-- how many nodes a section has, without its exit
abbrev pub node_count : CompiledView → ℕ → ℕ
node_count c i = length (flow_nodes (section_at c i).body)

-- what stands before the text of a node
abbrev pub node_head : ℕ → ℕ → List ℕ
node_head i n = codes "section " ++ decimal i ++ codes ", node " ++ decimal n ++ codes ": "

-- a node and what it does, and the locks that are needed from there on
abbrev pub node_lines : CompiledView → ℕ → ℕ → List Lock → List ℕ
node_lines c i n needed =
    node_head i n ++ section_deed c i n
    ++ codes "\nneeded from here on: " ++ locks_text (program_of c).source needed ++ codes "\n"

abbrev pub IsNodeTold : CompiledView → ℕ → Option ℕ → List ℕ → Type 0
IsNodeTold c i None text = text ≡ []
IsNodeTold c i (Some n) text =
    (needed : List (List Lock))
    × AreNeeded c.scheme (section_at c i).thread (end_of c.scheme i) (section_at c i).body
    (flow_nodes (section_at c i).body) needed
    × (text ≡ fenced (node_lines c i n (slice_index_or needed n [])))

-- of the first node of a section whose statement stands at a place
abbrev pub AreNodesTold : CompiledView → NodeSpansView → ℕ → ℕ → List ℕ → Type 0
AreNodesTold c v at i text =
    (found : Option ℕ) × IsFirst (is_node_under v at i) (node_count c i) found × IsNodeTold c i found text

-- of each of the first sections
abbrev pub AreAllNodesTold : CompiledView → NodeSpansView → ℕ → ℕ → List ℕ → Type 0
AreAllNodesTold c v at zero text = text ≡ []
AreAllNodesTold c v at (suc i) text =
    (before : List ℕ) × (here : List ℕ) × AreAllNodesTold c v at i before × AreNodesTold c v at i here
    × (text ≡ before ++ here)

-- ---- all of these

abbrev pub section_count : CompiledView → ℕ
section_count c = length (sections_of (program_of c).texts)

abbrev pub hover_json : List ℕ → Data
hover_json [] = null
hover_json text =
    object (member (codes "contents") (object (member (codes "kind") (string (codes "markdown"))
    (member (codes "value") (string text) no_members))) no_members)

-- what is told of a place of a text; nothing where neither a name nor an `atomic` nor a statement of a section stands
pub record IsHover (source : List ℕ) (at : ℕ) (c : CompiledView) (value : Data) : Type 0 where
  pub names : List NameSpan
  pub named : AreNameSpans source (program_of c).source names
  pub spans : NodeSpansView
  pub placed : AreNodeSpans source (program_of c) spans
  pub name : List ℕ
  pub name_told : IsNameTold c names (declared_under names at) name
  pub found : Option ℕ
  pub under : IsFirst (is_head_under spans at) (section_count c) found
  pub section : List ℕ
  pub section_told : IsSectionTold source c found section
  pub nodes : List ℕ
  pub nodes_told : AreAllNodesTold c spans at (section_count c) nodes
  pub told : value ≡ hover_json (name ++ section ++ nodes)

-- nothing is told where a request tells no place
abbrev pub IsHoverIf : List ℕ → Option ℕ → CompiledView → Data → Type 0
IsHoverIf source None c value = value ≡ null
IsHoverIf source (Some at) c value = IsHover source at c value
