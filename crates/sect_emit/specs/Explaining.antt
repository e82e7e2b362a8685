-- Why sections take their locks, as it is printed. `explanation` cites it.
use Rattle.std.specs.Prelude.{◌≡◌, ℕ, ◌-◌, max, List, [], ◌∷◌, ◌++◌, Option, Some, None, length, replicate, slice_get}
use Rattle.std.specs.{Prelude.{slice_index_or, option_map, codes}, List.{flat_map}, Fmt.{decimal}}
use Rattle.sect_front.specs.TreeView.{TreeView}
use Rattle.sect_types.specs.{Statements.{Stop}, Sections.{SectionView, sections_of}}
use Rattle.sect_types.specs.declared.expansion.action.Label.{Label}
use Rattle.sect_places.specs.declared.lines.NodeLine.{NodeLine}
use Rattle.sect_graph.specs.{declared.flow.Node.{Node}, Layout.{flow_nodes}}
use Rattle.sect_names.specs.{declared.link.Link.{Link}, Needed.{end_of}, Printing.{lock_text}}
use Rattle.sect_chains.specs.Chains.{AreChains}
use Rattle.sect_emit.specs.{Compiled.{CompiledView}, Labels.{label_text, thread_name}, Listing.{by_number}}

-- what a node does; the exit has no label
abbrev pub deed_text : TreeView → ℕ → Option Label → List ℕ
deed_text t u None = codes "exit"
deed_text t u (Some l) = label_text t u l

-- a node of a graph of thread u, and what it does
abbrev pub node_text : TreeView → ℕ → List Node → ℕ → List ℕ
node_text t u g n =
    codes "node " ++ decimal n ++ codes ": " ++ deed_text t u (option_map (λ x. x.label) (slice_get g n))

-- the width of the widest text of a node of these steps
abbrev pub widest : TreeView → ℕ → List Node → List Link → ℕ
widest t u g [] = 0
widest t u g (a ∷ links) = max (length (node_text t u g a.node)) (widest t u g links)

-- the text, and blanks up to the width
abbrev pub column : ℕ → List ℕ → List ℕ
column width text = text ++ replicate (width - length text) 32

abbrev pub call_note : Option ℕ → List ℕ
call_note None = []
call_note (Some line) = codes ", called in line " ++ decimal line

-- where a node comes from, at the end of its line; the exit comes from no statement
abbrev pub line_end : Option NodeLine → List ℕ
line_end None = codes "\n"
line_end (Some l) = codes " (line " ++ decimal l.line ++ call_note l.call ++ codes ")\n"

-- a step: the node, behind a column of that width the lock that is needed from there on, and the node's line
abbrev pub step_line : TreeView → ℕ → List Node → List NodeLine → ℕ → Link → List ℕ
step_line t u g lines width a =
    codes "  " ++ column width (node_text t u g a.node) ++ codes "  " ++ lock_text t a.lock
    ++ line_end (slice_get lines a.node)

-- the lock that a chain begins with
abbrev pub lock_line : TreeView → List Link → List ℕ
lock_line t [] = []
lock_line t (a ∷ links) = codes "lock " ++ lock_text t a.lock ++ codes "\n"

-- a chain: the lock that it is of, and its steps
abbrev pub chain_lines : TreeView → ℕ → List Node → List NodeLine → List Link → List ℕ
chain_lines t u g lines links = lock_line t links ++ flat_map (step_line t u g lines (widest t u g links)) links

abbrev pub chains_lines : TreeView → ℕ → List Node → List NodeLine → List (List Link) → List ℕ
chains_lines t u g lines [] = codes "no lock is needed\n"
chains_lines t u g lines (c ∷ cs) = flat_map (chain_lines t u g lines) (c ∷ cs)

-- a section of thread u with this graph, whose nodes have these lines, and these chains
abbrev pub explained_lines : TreeView → ℕ → ℕ → List Node → List NodeLine → List (List Link) → List ℕ
explained_lines t i u g lines chains =
    codes "section " ++ decimal i ++ codes " in thread " ++ thread_name t u ++ codes "\n"
    ++ chains_lines t u g lines chains

-- the section of that number
abbrev pub section_at : CompiledView → ℕ → SectionView
section_at c i = slice_index_or (sections_of c.scheme.program.texts) i (record { thread = 0; body = Stop })

-- what a node of section i does
abbrev pub section_deed : CompiledView → ℕ → ℕ → List ℕ
section_deed c i n = deed_text c.scheme.program.source (section_at c i).thread
    (option_map (λ x. x.label) (slice_get (flow_nodes (section_at c i).body) n))

-- the lines of section i of a compiled program with these chains, where the nodes of each section have these lines
abbrev pub section_explained : CompiledView → List (List NodeLine) → ℕ → List (List Link) → List ℕ
section_explained c lines i chains =
    explained_lines c.scheme.program.source i (section_at c i).thread (flow_nodes (section_at c i).body)
    (slice_index_or lines i []) chains

-- a chain for each lock of section i
abbrev pub IsChained : CompiledView → ℕ → List (List Link) → Type 0
IsChained c i chains = AreChains c.scheme (section_at c i).thread (end_of c.scheme i) (flow_nodes (section_at c i).body)
    (slice_index_or c.sets i []) chains

-- these are the lines of the first sections, each with a chain for each of its locks
pub record IsExplained (c : CompiledView) (lines : List (List NodeLine)) (count : ℕ) (text : List ℕ) : Type 0 where
  pub all : List (List (List Link))
  pub chained : (i : ℕ) (chains : List (List Link)) → slice_get all i ≡ Some chains → IsChained c i chains
  pub counted : length all ≡ count
  pub printed : text ≡ by_number (section_explained c lines) 0 all

-- of all sections, whose nodes have these lines
abbrev pub IsExplanation : CompiledView → List (List NodeLine) → List ℕ → Type 0
IsExplanation c lines text = IsExplained c lines (length (sections_of c.scheme.program.texts)) text
