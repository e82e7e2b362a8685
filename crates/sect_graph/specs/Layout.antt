-- How the nodes of a text lie one after another.
use Rattle.std.specs.Prelude.{ℕ, ◌+◌, List, [], ◌∷◌, ◌++◌}
use Rattle.sect_types.specs.declared.expansion.action.Label.TheVariants.{Act, Test, Section as WholeSection}
use Rattle.sect_types.specs.{Statements.{TextView, Stop, Do, Choose, Loop, Section}, Traces.{node_count}}
use Rattle.sect_graph.specs.{declared.flow.Node.{Node}, declared.flow.Successors.TheVariants.{Next, Branch}}
use Rattle.sect_graph.specs.Paths.{node}

-- where a text is entered whose first node is numbered n, if it has one, and that goes on to next
abbrev pub entry_of : TextView → ℕ → ℕ → ℕ
entry_of Stop n next = next
entry_of (Do a rest) n next = n
entry_of (Choose t p q rest) n next = n
entry_of (Loop t p rest) n next = n
entry_of (Section i p rest) n next = n

-- the nodes of a text that begins at n and goes on to next
abbrev pub nodes_of : TextView → ℕ → ℕ → List Node
nodes_of Stop n next = []
nodes_of (Do a rest) n next =
    let after = entry_of rest (n + 1) next in
    node (Act a) (Next after) ∷ nodes_of rest (n + 1) next
nodes_of (Choose t p q rest) n next =
    let end = n + 1 + node_count p + node_count q in
    let after = entry_of rest end next in
    node (Test t) (Branch (entry_of p (n + 1) after) (entry_of q (n + 1 + node_count p) after))
    ∷ (nodes_of p (n + 1) after ++ (nodes_of q (n + 1 + node_count p) after ++ nodes_of rest end next))
nodes_of (Loop t p rest) n next =
    let end = n + 1 + node_count p in
    node (Test t) (Branch (entry_of p (n + 1) n) (entry_of rest end next))
    ∷ (nodes_of p (n + 1) n ++ nodes_of rest end next)
nodes_of (Section i p rest) n next =
    let after = entry_of rest (n + 1) next in
    node (WholeSection i) (Next after) ∷ nodes_of rest (n + 1) next

-- the nodes of a whole text, whose exit is numbered last
abbrev pub flow_nodes : TextView → List Node
flow_nodes text = nodes_of text 0 (node_count text)
