-- Graphs as JSON. `nodes_value` cites it.
use Rattle.std.specs.Prelude.{ℕ, ◌+◌, List, [], ◌∷◌, Option, Some, None, codes, length, map, option_map, slice_get}
use Rattle.std.specs.List.{range_with_len}
use Rattle.serde_json.specs.Data.{Data, string}
use Rattle.sect_graph.specs.{declared.flow.Successors.{Successors}, declared.flow.Successors.TheVariants.{Next, Branch}}
use Rattle.sect_emit.specs.{Compiled.{CompiledView}, Graphed.{graphed_nodes, graphed_deed}}
use Rattle.sect_emit.specs.declared.graphs.GraphOf.{GraphOf}
use Rattle.sect_json.specs.Values.{count, list, record_of}

-- the nodes to which control may go on: from a test the one where it holds, and then the one where it doesn't; from the
-- exit none
abbrev pub next_json : Option Successors → Data
next_json None = list []
next_json (Some (Next n)) = list (count n ∷ [])
next_json (Some (Branch holds fails)) = list (count holds ∷ count fails ∷ [])

-- a node, what it does, and where control goes on
abbrev pub node_with : Data → ℕ → List ℕ → Data
node_with next n text =
    record_of ((codes "next", next) ∷ (codes "node", count n) ∷ (codes "text", string text) ∷ [])

abbrev pub next_at : CompiledView → GraphOf → ℕ → Data
next_at c of n = next_json (option_map (λ x. x.next) (slice_get (graphed_nodes c of) n))

abbrev pub node_json : CompiledView → GraphOf → ℕ → Data
node_json c of n = node_with (next_at c of n) n (graphed_deed c of n)

-- all nodes of a graph, by number, the exit last
abbrev pub nodes_json : CompiledView → GraphOf → Data
nodes_json c of = list (map (node_json c of) (range_with_len 0 (length (graphed_nodes c of) + 1)))
