-- What is known of a program, as JSON. `inspection_document` cites it.
use Rattle.std.specs.Prelude.{◌≡◌, ℕ, ◌+◌, List, [], ◌∷◌, codes, length, map, slice_get, slice_index_or, true, false}
use Rattle.std.specs.List.{range_with_len}
use Rattle.serde_json.specs.Data.{Data, boolean, string}
use Rattle.sect_front.specs.declared.tree.Locking.{Locking}
use Rattle.sect_types.specs.Sections.{sections_of}
use Rattle.sect_graph.specs.Layout.{flow_nodes}
use Rattle.sect_infer.specs.Sets.{AreNeeded}
use Rattle.sect_names.specs.{Needed.{end_of}, declared.link.Link.{Link}, declared.lock.Lock.{Lock}}
use Rattle.sect_places.specs.{declared.origin_spans.NodeSpan.{NodeSpan}, NameSpans.{AreNameSpans}}
use Rattle.sect_places.specs.{NodeSpans.{NodeSpansView, AreNodeSpans}, declared.name_use.NameSpan.{NameSpan}}
use Rattle.sect_places.specs.Spans.{no_span}
use Rattle.sect_lint.specs.Json.{span_json}
use Rattle.sect_emit.specs.{Compiled.{CompiledView, program_of}, Explaining.{IsChained, section_at}}
use Rattle.sect_emit.specs.{Graphed.{graphed_nodes, graphed_deed}, Labels.{thread_name}}
use Rattle.sect_emit.specs.declared.graphs.GraphOf.{GraphOf}
use Rattle.sect_json.specs.Values.{count, list, by_place, record_of, document_text, AreTold}
use Rattle.sect_json.specs.{Compiling.{set_json, plan_json}, Calls.{procedure_json, calls_json}}
use Rattle.sect_json.specs.{Explaining.{chain_json}, Locks.{lock_json}, Nodes.{next_at}}
use Rattle.sect_json.specs.Sites.{bytes_json, call_of, place_of, locals_json, sites_json, AreClasses}
use Rattle.sect_front.specs.declared.tree.Locking.TheVariants as locking
use Rattle.sect_emit.specs.declared.graphs.GraphOf.TheVariants as graphed

-- where a node comes from: the call and the statement
abbrev pub origin_with : Data → Data → Data
origin_with call place = record_of ((codes "call", call) ∷ (codes "statement", place) ∷ [])

abbrev pub origin_json : List ℕ → List NodeSpan → ℕ → Data
origin_json source spans n =
    origin_with (bytes_json source (call_of (slice_get spans n))) (bytes_json source (place_of (slice_get spans n)))

-- where the nodes of a graph come from
abbrev pub spans_at : NodeSpansView → GraphOf → List NodeSpan
spans_at v (graphed.Thread u) = slice_index_or v.threads u []
spans_at v (graphed.Section i) = slice_index_or v.sections i []

-- a node of a thread: where control goes on, where it comes from, and what it does
abbrev pub thread_node_with : Data → ℕ → Data → List ℕ → Data
thread_node_with next n origin text = record_of (
    (codes "next", next)
    ∷ (codes "node", count n)
    ∷ (codes "place", origin)
    ∷ (codes "text", string text) ∷ [])

abbrev pub thread_node_json : CompiledView → List ℕ → NodeSpansView → ℕ → ℕ → Data
thread_node_json c source v u n =
    let of = graphed.Thread u in
    thread_node_with (next_at c of n) n (origin_json source (spans_at v of) n) (graphed_deed c of n)

-- a node of a section: beside these the locks that are needed from there on
abbrev pub section_node_with : Data → Data → ℕ → Data → List ℕ → Data
section_node_with needs next n origin text = record_of (
    (codes "needs", needs)
    ∷ (codes "next", next)
    ∷ (codes "node", count n)
    ∷ (codes "place", origin)
    ∷ (codes "text", string text) ∷ [])

abbrev pub section_node_json : CompiledView → List ℕ → NodeSpansView → ℕ → ℕ → List Lock → Data
section_node_json c source v i n needed =
    let of = graphed.Section i in
    section_node_with (list (map (lock_json (program_of c).source) needed)) (next_at c of n) n
    (origin_json source (spans_at v of) n) (graphed_deed c of n)

-- whether a section is marked
abbrev pub is_all : Locking → Data
is_all locking.All = boolean true
is_all locking.Inferred = boolean false

-- what is told of a section, beside its number and its thread: whether it is marked, its chains, its locks, its nodes,
-- its place, and the keys that it takes in every state
pub record SectionTold : Type 0 where
  pub all : Data
  pub chains : Data
  pub locks : Data
  pub nodes : Data
  pub place : Data
  pub plan : Data

abbrev pub section_with : SectionTold → ℕ → ℕ → Data
section_with told i t = record_of (
    (codes "all", told.all)
    ∷ (codes "chains", told.chains)
    ∷ (codes "locks", told.locks)
    ∷ (codes "nodes", told.nodes)
    ∷ (codes "place", told.place)
    ∷ (codes "plan", told.plan)
    ∷ (codes "section", count i)
    ∷ (codes "thread", count t) ∷ [])

-- section i, where these locks are needed at its nodes, and these are its chains
abbrev pub section_json : CompiledView → List ℕ → NodeSpansView → ℕ → List (List Lock) → List (List Link) → Data
section_json c source v i needed chains = section_with
    (record {
      all = is_all (slice_index_or (program_of c).lockings i locking.Inferred);
      chains = list (map (chain_json c i) chains);
      locks = set_json c i;
      nodes = list (by_place (section_node_json c source v i) 0 needed);
      place = span_json source (slice_index_or v.heads i no_span);
      plan = plan_json c i;
    })
    i (section_at c i).thread

-- the value tells of section i the maximal ones of the locks that are needed at its nodes, and a chain for each lock
pub record IsSectionInspected (c : CompiledView) (source : List ℕ) (v : NodeSpansView) (i : ℕ) (value : Data)
    : Type 0 where
  pub needed : List (List Lock)
  pub at : AreNeeded c.scheme (section_at c i).thread (end_of c.scheme i) (section_at c i).body
      (flow_nodes (section_at c i).body) needed
  pub chains : List (List Link)
  pub chained : IsChained c i chains
  pub told : value ≡ section_json c source v i needed chains

-- what is told of a thread, beside its number: its calls, its locals, its name and its nodes
pub record ThreadTold : Type 0 where
  pub calls : Data
  pub locals : Data
  pub name : List ℕ
  pub nodes : Data

abbrev pub thread_with : ThreadTold → ℕ → Data
thread_with told u = record_of (
    (codes "calls", told.calls)
    ∷ (codes "locals", told.locals)
    ∷ (codes "name", string told.name)
    ∷ (codes "nodes", told.nodes)
    ∷ (codes "thread", count u) ∷ [])

abbrev pub thread_json : CompiledView → List ℕ → NodeSpansView → List NameSpan → ℕ → Data
thread_json c source v names u =
    let t = (program_of c).source in
    thread_with (record {
      calls = calls_json source names (length t.procedures) (thread_name t u);
      locals = locals_json c u;
      name = thread_name t u;
      nodes = list (map (thread_node_json c source v u)
          (range_with_len 0 (length (graphed_nodes c (graphed.Thread u)) + 1)));
    }) u

-- what is told of a program, beside its k
pub record ProgramTold : Type 0 where
  pub classes : List Data
  pub procedures : List Data
  pub sections : List Data
  pub sites : List Data
  pub threads : List Data

abbrev pub inspection_with : ℕ → ProgramTold → Data
inspection_with k told = record_of (
    (codes "classes", list told.classes)
    ∷ (codes "k", count k)
    ∷ (codes "procedures", list told.procedures)
    ∷ (codes "sections", list told.sections)
    ∷ (codes "sites", list told.sites)
    ∷ (codes "threads", list told.threads) ∷ [])

abbrev pub inspection_json : CompiledView → List ℕ → NodeSpansView → List NameSpan → List Data → List Data → Data
inspection_json c source v names classes sections = inspection_with c.scheme.most (record {
  classes = classes;
  procedures = map (procedure_json source names) (program_of c).source.procedures;
  sections = sections;
  sites = sites_json c source v.sections names;
  threads = map (thread_json c source v names) (range_with_len 0 (length (program_of c).texts));
})

-- the bytes are the document of a compiled program, whose text this is
pub record IsInspectionDocument (source : List ℕ) (c : CompiledView) (bytes : List ℕ) : Type 0 where
  pub spans : NodeSpansView
  pub placed : AreNodeSpans source (program_of c) spans
  pub names : List NameSpan
  pub named : AreNameSpans source (program_of c).source names
  pub classes : List Data
  pub parted : AreClasses c.scheme.classes.numbers classes
  pub sections : List Data
  pub inspected : AreTold (IsSectionInspected c source spans) (length (sections_of (program_of c).texts)) sections
  pub printed : bytes ≡ document_text (inspection_json c source spans names classes sections)
