-- The bytes that the nodes of a program come from.
use Rattle.std.specs.{Prelude.{◌≡◌, ⊤, ℕ, List, All, Option, Some, None, map, length, get_or}, Option.{option_map}}
use Rattle.sect_front.specs.{FaultPlaces.{IsWithin}, declared.span.Span.{Span}}
use Rattle.sect_types.specs.{Programs.{ProgramView}, Sections.{sections_of}}
use Rattle.sect_places.specs.{Items.{AreItemSpans}, Origins.{thread_origins_of, section_origins_of}}
use Rattle.sect_places.specs.{SectionItems.{section_items_of}, Spans.{no_span}}
use Rattle.sect_places.specs.{declared.origin_spans.NodeSpan.{NodeSpan}, declared.origin.Origin.{Origin}}

-- the bytes of an item, where items have these
abbrev pub item_span : List Span → ℕ → Span
item_span spans n = get_or spans n no_span

-- those of a node that comes from there
abbrev pub node_span : List Span → Origin → NodeSpan
node_span spans o = record { item = item_span spans o.item; call = option_map (item_span spans) o.call }

-- for the nodes of each thread and of each section, and for each section itself
pub record NodeSpansView : Type 0 where
  pub threads : List (List NodeSpan)
  pub sections : List (List NodeSpan)
  pub heads : List Span

abbrev pub IsCallWithin : ℕ → Option Span → Type 0
IsCallWithin total None = ⊤
IsCallWithin total (Some s) = IsWithin total s

-- they are in a text of so many bytes
pub record IsNodeWithin (total : ℕ) (s : NodeSpan) : Type 0 where
  pub item : IsWithin total s.item
  pub call : IsCallWithin total s.call

-- these are the bytes of the nodes and the sections of a program, which the text spells
pub record AreNodeSpans (source : List ℕ) (p : ProgramView) (v : NodeSpansView) : Type 0 where
  pub spans : List Span
  pub placed : AreItemSpans source p.source spans
  pub threads_are : v.threads ≡ map (map (node_span spans)) (thread_origins_of p.source)
  pub sections_are : v.sections ≡ map (map (node_span spans)) (section_origins_of p.source)
  pub heads_are : v.heads ≡ map (item_span spans) (section_items_of p.source)
  -- there are as many as there are threads and sections
  pub thread_count : length v.threads ≡ length p.texts
  pub section_count : length v.sections ≡ length (sections_of p.texts)
  pub head_count : length v.heads ≡ length (sections_of p.texts)
  -- and all of them are in the text
  pub threads_within : All (All (IsNodeWithin (length source))) v.threads
  pub sections_within : All (All (IsNodeWithin (length source))) v.sections
  pub heads_within : All (IsWithin (length source)) v.heads
