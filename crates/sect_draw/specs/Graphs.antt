-- Control-flow graphs in the language of Graphviz. `graph` cites it.
use Rattle.std.specs.Prelude.{◌≡◌, ◌↔◌, ℕ, ◌+◌, List, [], ◌∷◌, ◌++◌, Option, Some, None, codes, length, slice_get}
use Rattle.std.specs.{Prelude.{slice_index_or, ◌==◌, ◌||◌, if◌then◌else◌}, List.{flat_map}, Fmt.{decimal}}
use Rattle.sect_front.specs.TreeView.{TreeView}
use Rattle.sect_graph.specs.{declared.flow.Node.{Node}, declared.flow.Successors.{Successors}}
use Rattle.sect_graph.specs.{declared.flow.Successors.TheVariants.{Next, Branch}, Layout.{flow_nodes}}
use Rattle.sect_infer.specs.Sets.{AreNeeded}
use Rattle.sect_names.specs.{Chains.{link, IsGeneratedAt}, Needed.{end_of}, Printing.{lock_text, locks_text}}
use Rattle.sect_names.specs.declared.lock.Lock.{Lock}
use Rattle.sect_store.specs.Printing.{by_place}
use Rattle.sect_emit.specs.{Compiled.{CompiledView, program_of}, Explaining.{section_at, section_deed}}
use Rattle.sect_emit.specs.Labels.{thread_name}

-- a byte in a string: behind `\` where it is `"` or `\`
abbrev pub escaped_byte : ℕ → List ℕ
escaped_byte b = if (b == 34) || (b == 92) then 92 ∷ b ∷ [] else b ∷ []

-- a line of a label, and `\l`, which lays it to the left
abbrev pub label_line : List ℕ → List ℕ
label_line text = flat_map escaped_byte text ++ 92 ∷ 108 ∷ []

-- the name of a node of section i
abbrev pub node_name : ℕ → ℕ → List ℕ
node_name i n = codes "s" ++ decimal i ++ codes "n" ++ decimal n

-- the line of a lock that a node generates, if it does
abbrev pub generated_lines : TreeView → Option Lock → List (List ℕ)
generated_lines t None = []
generated_lines t (Some l) = (codes "generates " ++ lock_text t l) ∷ []

-- a node that generates a lock is drawn with a thick line
abbrev pub frame_text : Option Lock → List ℕ
frame_text None = []
frame_text (Some l) = codes ", penwidth=2"

-- the locks that are needed from a node on
abbrev pub needs_words : TreeView → List Lock → List ℕ
needs_words t needed = codes "needs " ++ locks_text t needed

-- where node n of section i begins, and where it ends: with the lock that it generates, if it does
abbrev pub node_opening : ℕ → ℕ → List ℕ
node_opening i n = codes "    " ++ node_name i n ++ codes " [label=\""

abbrev pub node_closing : TreeView → Option Lock → List ℕ
node_closing t own = flat_map label_line (generated_lines t own) ++ codes "\"" ++ frame_text own ++ codes "];\n"

-- node n of section i: what it does, the locks that are needed from there on, and the lock that it generates
abbrev pub node_with : CompiledView → ℕ → ℕ → List Lock → Option Lock → List ℕ
node_with c i n needed own = let t = (program_of c).source in
    node_opening i n ++ (label_line (section_deed c i n) ++ (label_line (needs_words t needed) ++ node_closing t own))

abbrev pub node_text : CompiledView → ℕ → List (Option Lock) → ℕ → List Lock → List ℕ
node_text c i generated n needed = node_with c i n needed (slice_index_or generated n None)

-- an edge, with what stands at it
abbrev pub edge_text : ℕ → ℕ → ℕ → List ℕ → List ℕ
edge_text i n m at = codes "    " ++ node_name i n ++ codes " -> " ++ node_name i m ++ at ++ codes ";\n"

-- the edges of a node; those of a test are named
abbrev pub edges_text : ℕ → ℕ → Successors → List ℕ
edges_text i n (Next m) = edge_text i n m []
edges_text i n (Branch holds fails) =
    edge_text i n holds (codes " [label=\"true\"]") ++ edge_text i n fails (codes " [label=\"false\"]")

abbrev pub node_edges : ℕ → ℕ → Node → List ℕ
node_edges i n x = edges_text i n x.next

-- the number of a section and its thread, and the locks that it takes
abbrev pub section_words : CompiledView → ℕ → List ℕ
section_words c i =
    codes "section " ++ decimal i ++ codes " of " ++ thread_name (program_of c).source (section_at c i).thread

abbrev pub takes_words : CompiledView → ℕ → List ℕ
takes_words c i = codes "takes " ++ locks_text (program_of c).source (slice_index_or c.sets i [])

-- what stands above section i
abbrev pub heading_opening : ℕ → List ℕ
heading_opening i = codes "  subgraph cluster_" ++ decimal i ++ codes " {\n    label=\""

abbrev pub heading_text : CompiledView → ℕ → List ℕ
heading_text c i =
    heading_opening i ++ (label_line (section_words c i) ++ (label_line (takes_words c i) ++ codes "\";\n"))

-- section i, whose nodes need and generate these
abbrev pub cluster_text : CompiledView → ℕ → List (List Lock) → List (Option Lock) → List ℕ
cluster_text c i needed generated =
    heading_text c i ++ by_place (node_text c i generated) 0 needed
    ++ by_place (node_edges i) 0 (flow_nodes (section_at c i).body) ++ codes "  }\n"

-- these are, node by node of a graph, the exit last, the locks that are generated
pub record AreGenerated (c : CompiledView) (i : ℕ) (generated : List (Option Lock)) : Type 0 where
  pub count : length generated ≡ length (flow_nodes (section_at c i).body) + 1
  pub each : (n : ℕ) (own : Option Lock) → slice_get generated n ≡ Some own → (l : Lock) → (own ≡ Some l)
      ↔ IsGeneratedAt c.scheme (section_at c i).thread (end_of c.scheme i) (flow_nodes (section_at c i).body) (link n l)

-- the bytes are section i, each of its nodes with the maximal ones of the locks that are needed from there on and with
-- the lock that it generates
pub record IsCluster (c : CompiledView) (i : ℕ) (bytes : List ℕ) : Type 0 where
  pub needed : List (List Lock)
  pub generated : List (Option Lock)
  pub at : AreNeeded c.scheme (section_at c i).thread (end_of c.scheme i) (section_at c i).body
      (flow_nodes (section_at c i).body) needed
  pub own : AreGenerated c i generated
  pub printed : bytes ≡ cluster_text c i needed generated

-- the sections from this one on, so many
pub record AreClusters (c : CompiledView) (first count : ℕ) (bytes : List ℕ) : Type 0 where
  pub all : List (List ℕ)
  pub each : (n : ℕ) (text : List ℕ) → slice_get all n ≡ Some text → IsCluster c (first + n) text
  pub counted : length all ≡ count
  pub printed : bytes ≡ flat_map (λ (text : List ℕ). text) all

abbrev pub opening : List ℕ
opening = codes "digraph sections {\n  graph [fontname=\"monospace\"];\n"
    ++ codes "  node [fontname=\"monospace\", shape=box];\n  edge [fontname=\"monospace\"];\n"

-- the bytes are the graph of these sections
pub record IsGraph (c : CompiledView) (first count : ℕ) (bytes : List ℕ) : Type 0 where
  pub clusters : List ℕ
  pub drawn : AreClusters c first count clusters
  pub printed : bytes ≡ opening ++ clusters ++ codes "}\n"
