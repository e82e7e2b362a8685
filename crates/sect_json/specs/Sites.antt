-- Sites and their classes as JSON, and the sites to whose objects locals and fields may refer. `inspection_document`
-- cites it.
use Rattle.std.specs.Prelude.{◌≡◌, ◌<◌, ℕ, ◌+◌, ◌*◌, ◌/◌, ◌%◌, ◌==◌, ◌&&◌, Bool, List, [], ◌∷◌, ◌++◌, Option, Some}
use Rattle.std.specs.Prelude.{None, codes, length, map, filter, nat_lt, option_map, slice_get, slice_index}
use Rattle.std.specs.{Prelude.{slice_index_or}, List.{flat_map, range_with_len}, Int.{bit_at}}
use Rattle.serde_json.specs.Data.{Data, null, string}
use Rattle.sect_front.specs.{declared.span.Span.{Span}, declared.tree.GlobalObject.{GlobalObject}}
use Rattle.sect_types.specs.{Limits.{most_fields}, LocalNames.{local_text}, Sections.{sections_of}}
use Rattle.sect_types.specs.declared.expansion.action.Label.{Label}
use Rattle.sect_points.specs.{Rows.{no_sites}, Sets.{PointsToView, rows_of}, declared.holders.Holder.{Holder}}
use Rattle.sect_points.specs.declared.sites.SiteSet.{SiteSet}
use Rattle.sect_names.specs.Printing.{local_at}
use Rattle.sect_places.specs.{Declarations.{global_of}, declared.name_use.NameSpan.{NameSpan}}
use Rattle.sect_places.specs.declared.origin_spans.NodeSpan.{NodeSpan}
use Rattle.sect_lint.specs.{Json.{span_json}, Naming.{found}}
use Rattle.sect_store.specs.Printing.{fields_at}
use Rattle.sect_emit.specs.{Compiled.{CompiledView, program_of}, Graphed.{graphed_nodes}, Labels.{record_name}}
use Rattle.sect_json.specs.Values.{count, list, by_place, record_of}
use Rattle.sect_types.specs.declared.expansion.action.Action.TheVariants as action
use Rattle.sect_types.specs.declared.expansion.action.Label.TheVariants as label
use Rattle.sect_points.specs.declared.holders.Holder.TheVariants as holder
use Rattle.sect_emit.specs.declared.graphs.GraphOf.TheVariants as graphed

-- bytes of the text, where there are some
abbrev pub bytes_json : List ℕ → Option Span → Data
bytes_json source None = null
bytes_json source (Some s) = span_json source s

-- the bytes of a node's statement, and those of the call that it is of; the exit comes from none
abbrev pub place_of : Option NodeSpan → Option Span
place_of None = None
place_of (Some s) = Some s.item

abbrev pub call_of : Option NodeSpan → Option Span
call_of None = None
call_of (Some s) = s.call

-- the set has the site
abbrev pub has_bit : SiteSet → ℕ → Bool
has_bit set s = bit_at (slice_index set.words (s / 64)) (s % 64) == 1

-- the local or the field may refer to an object of the site
abbrev pub may_hold : PointsToView → Holder → ℕ → Bool
may_hold sets (holder.Local t x) s = has_bit (slice_index_or (rows_of sets t) x no_sites) s
may_hold sets (holder.Slot o f) s =
    nat_lt f most_fields && has_bit (slice_index_or sets.slots (o * most_fields + f) no_sites) s

-- the sites to whose objects it may refer, by number
abbrev pub held_json : PointsToView → Holder → Data
held_json sets h = list (map count (filter (may_hold sets h) (range_with_len 0 sets.sites)))

-- a local or a field, and these sites
abbrev pub holder_with : List ℕ → Data → Data
holder_with name sites = record_of ((codes "name", string name) ∷ (codes "sites", sites) ∷ [])

-- a field of the objects of a site
abbrev pub field_json : PointsToView → ℕ → ℕ → List ℕ → Data
field_json sets s f name = holder_with name (held_json sets (holder.Slot s f))

abbrev pub fields_json : CompiledView → ℕ → Data
fields_json c s = list (by_place (field_json c.scheme.classes.sets s) 0 (fields_at (program_of c) s))

-- a local of a thread
abbrev pub local_json : CompiledView → ℕ → ℕ → Data
local_json c u x =
    holder_with (local_text (local_at (program_of c).source u x)) (held_json c.scheme.classes.sets (holder.Local u x))

abbrev pub locals_json : CompiledView → ℕ → Data
locals_json c u =
    list (map (local_json c u) (range_with_len 0 (length (slice_index_or (program_of c).locals u []))))

-- what is told of a site, beside its number: the call that makes it, its fields, the global that it is, its place, and
-- the name of its record
pub record SiteTold : Type 0 where
  pub call : Data
  pub fields : Data
  pub global : Data
  pub place : Data
  pub shape : List ℕ

abbrev pub site_with : SiteTold → ℕ → Data
site_with told s = record_of (
    (codes "call", told.call)
    ∷ (codes "fields", told.fields)
    ∷ (codes "global", told.global)
    ∷ (codes "place", told.place)
    ∷ (codes "record", string told.shape)
    ∷ (codes "site", count s) ∷ [])

-- the bytes of a name, where one is found
abbrev pub name_bytes : Option NameSpan → Option Span
name_bytes named = option_map (λ n. n.span) named

-- the site of a global, which stands where that is declared
abbrev pub global_json : CompiledView → List ℕ → List NameSpan → ℕ → GlobalObject → Data
global_json c source names s g = site_with (record {
  call = null;
  fields = fields_json c s;
  global = string g.name;
  place = bytes_json source (name_bytes (found names (global_of names g.name)));
  shape = g.of;
}) s

-- the site of a `new` of that record, which stands there
abbrev pub made_json : CompiledView → List ℕ → Option NodeSpan → ℕ → ℕ → Data
made_json c source from r s = site_with (record {
  call = bytes_json source (call_of from);
  fields = fields_json c s;
  global = null;
  place = bytes_json source (place_of from);
  shape = record_name (program_of c).source r;
}) s

-- of a node that does this, and comes from there: its site, if it is a `new`
abbrev pub sites_by : CompiledView → List ℕ → Option NodeSpan → Option Label → List Data
sites_by c source from (Some (label.Act (action.New x r s))) = made_json c source from r s ∷ []
sites_by c source from _ = []

-- of the node n of section i
abbrev pub sites_at : CompiledView → List ℕ → List (List NodeSpan) → ℕ → ℕ → List Data
sites_at c source spans i n =
    sites_by c source (slice_get (slice_index_or spans i []) n)
    (option_map (λ x. x.label) (slice_get (graphed_nodes c (graphed.Section i)) n))

-- of all nodes of section i
abbrev pub section_sites : CompiledView → List ℕ → List (List NodeSpan) → ℕ → List Data
section_sites c source spans i =
    flat_map (sites_at c source spans i) (range_with_len 0 (length (graphed_nodes c (graphed.Section i))))

-- the sites of the globals, and then those of the `new` statements, which stand in sections alone
abbrev pub sites_json : CompiledView → List ℕ → List (List NodeSpan) → List NameSpan → List Data
sites_json c source spans names =
    by_place (global_json c source names) 0 (program_of c).source.globals
    ++ flat_map (section_sites c source spans) (range_with_len 0 (length (sections_of (program_of c).texts)))

-- the sites of a class, by number, where each site's class is given
abbrev pub class_sites : List ℕ → ℕ → List ℕ
class_sites numbers n = filter (λ s. slice_index numbers s == n) (range_with_len 0 (length numbers))

abbrev pub class_json : List ℕ → ℕ → Data
class_json numbers n =
    record_of ((codes "class", count n) ∷ (codes "sites", list (map count (class_sites numbers n))) ∷ [])

-- these are all classes: each site has the number of one, and each of them a site
pub record AreClasses (numbers : List ℕ) (values : List Data) : Type 0 where
  pub most : ℕ
  pub below : (s : ℕ) → s < length numbers → slice_index numbers s < most
  pub each : (n : ℕ) → n < most → (s : ℕ) × (slice_get numbers s ≡ Some n)
  pub told : values ≡ map (class_json numbers) (range_with_len 0 most)
