-- The graphs of a compiled program. `graphed_flow` and `put_graphed_node` cite it.
use Rattle.std.specs.Prelude.{◌<◌, ℕ, List, length, slice_index_or, slice_get, option_map}
use Rattle.sect_types.specs.{Statements.{TextView, Stop}, Sections.{sections_of}}
use Rattle.sect_graph.specs.{declared.flow.Node.{Node}, Layout.{flow_nodes}}
use Rattle.sect_emit.specs.{Compiled.{CompiledView, program_of}, Explaining.{section_at, deed_text}}
use Rattle.sect_emit.specs.declared.graphs.GraphOf.{GraphOf}
use Rattle.sect_emit.specs.declared.graphs.GraphOf.TheVariants as graphed

-- the text of that thread
abbrev pub text_at : CompiledView → ℕ → TextView
text_at c u = slice_index_or (program_of c).texts u Stop

-- there is such a thread, or such a section
abbrev pub IsThere : CompiledView → GraphOf → Type 0
IsThere c (graphed.Thread u) = u < length (program_of c).texts
IsThere c (graphed.Section i) = i < length (sections_of (program_of c).texts)

-- its thread
abbrev pub graphed_thread : CompiledView → GraphOf → ℕ
graphed_thread c (graphed.Thread u) = u
graphed_thread c (graphed.Section i) = (section_at c i).thread

-- its text
abbrev pub graphed_text : CompiledView → GraphOf → TextView
graphed_text c (graphed.Thread u) = text_at c u
graphed_text c (graphed.Section i) = (section_at c i).body

-- its nodes, the exit not among them
abbrev pub graphed_nodes : CompiledView → GraphOf → List Node
graphed_nodes c of = flow_nodes (graphed_text c of)

-- what a node of it does; behind them stands the exit
abbrev pub graphed_deed : CompiledView → GraphOf → ℕ → List ℕ
graphed_deed c of n = deed_text (program_of c).source (graphed_thread c of)
    (option_map (λ x. x.label) (slice_get (graphed_nodes c of) n))
