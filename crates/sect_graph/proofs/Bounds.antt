-- Control goes on to a node or to the exit.
use Rattle.std.proofs.Common.{◌≡◌, ℕ, ◌+◌, ◌≤◌, List, ◌++◌, length, Some, ap, ◌∙◌, subst, arith}
use Rattle.std.proofs.lemmas.List.Elements.{All-nil, All-cons, All-append, All-same, All-get_or}
use Rattle.std.proofs.lemmas.Option.{slice_get_within, get_or_from_slice_get}
use Rattle.std.specs.{Prelude.{slice_get}, List.{All}}
use Rattle.sect_types.specs.declared.expansion.action.Label.{Label}
use Rattle.sect_types.specs.declared.expansion.action.Label.TheVariants.{Act, Test, Section as WholeSection}
use Rattle.sect_types.specs.{Statements.{TextView, Stop, Do, Choose, Loop, Section}, Traces.{node_count}}
use Rattle.sect_graph.specs.{declared.flow.Node.{Node}, declared.flow.Successors.TheVariants.{Next, Branch}}
use Rattle.sect_graph.specs.{Layout.{entry_of, nodes_of, flow_nodes}, Paths.{node, LeadsTo}}
use Rattle.sect_graph.proofs.Paths.{length-nodes_of}

-- control goes on from the node to nothing above most
abbrev LeadsUpTo : ℕ → Node → Type 0
LeadsUpTo most x = (j : ℕ) → LeadsTo x j → j ≤ most

next_up_to : (a : Label) (k most : ℕ) → k ≤ most → LeadsUpTo most (node a (Next k))
next_up_to a k most first j to = omega arith

branch_up_to : (a : Label) (k l most : ℕ) → k ≤ most → l ≤ most → LeadsUpTo most (node a (Branch k l))
branch_up_to a k l most first second j to = omega arith

entry_up_to : (c : TextView) (n next most : ℕ) → n ≤ most → next ≤ most → entry_of c n next ≤ most
entry_up_to Stop n next most low high = high
entry_up_to (Do a rest) n next most low high = low
entry_up_to (Choose t p q rest) n next most low high = low
entry_up_to (Loop t p rest) n next most low high = low
entry_up_to (Section i p rest) n next most low high = low

-- control goes on from a text's nodes to nothing above both the place behind them and where the text goes on
nodes_up_to : (c : TextView) (n next most : ℕ) → n + node_count c ≤ most → next ≤ most
    → All (LeadsUpTo most) (nodes_of c n next)
nodes_up_to Stop n next most low high = All-nil (LeadsUpTo most)
nodes_up_to (Do a rest) n next most low high =
    let after = entry_of rest (n + 1) next in
    let here = next_up_to (Act a) after most (entry_up_to rest (n + 1) next most (omega arith) high) in
    All-cons (LeadsUpTo most) (node (Act a) (Next after)) (nodes_of rest (n + 1) next) here
    (nodes_up_to rest (n + 1) next most (omega arith) high)
nodes_up_to (Section i p rest) n next most low high =
    let after = entry_of rest (n + 1) next in
    let here = next_up_to (WholeSection i) after most (entry_up_to rest (n + 1) next most (omega arith) high) in
    All-cons (LeadsUpTo most) (node (WholeSection i) (Next after)) (nodes_of rest (n + 1) next) here
    (nodes_up_to rest (n + 1) next most (omega arith) high)
nodes_up_to (Choose t p q rest) n next most low high =
    let other = n + 1 + node_count p in
    let end = n + 1 + node_count p + node_count q in
    let after = entry_of rest end next in
    let behind = entry_up_to rest end next most (omega arith) high in
    let first = entry_of p (n + 1) after in
    let second = entry_of q other after in
    let xs = nodes_of p (n + 1) after in
    let ys = nodes_of q other after in
    let zs = nodes_of rest end next in
    let here = branch_up_to (Test t) first second most (entry_up_to p (n + 1) after most (omega arith) behind)
    (entry_up_to q other after most (omega arith) behind) in
    let in_q = All-append (LeadsUpTo most) ys zs (nodes_up_to q other after most (omega arith) behind)
    (nodes_up_to rest end next most (omega arith) high) in
    let parts = All-append (LeadsUpTo most) xs (ys ++ zs) (nodes_up_to p (n + 1) after most (omega arith) behind)
    in_q in
    All-cons (LeadsUpTo most) (node (Test t) (Branch first second)) (xs ++ (ys ++ zs)) here parts
nodes_up_to (Loop t p rest) n next most low high =
    let end = n + 1 + node_count p in
    let first = entry_of p (n + 1) n in
    let second = entry_of rest end next in
    let xs = nodes_of p (n + 1) n in
    let zs = nodes_of rest end next in
    let here = branch_up_to (Test t) first second most (entry_up_to p (n + 1) n most (omega arith) (omega arith))
    (entry_up_to rest end next most (omega arith) high) in
    let parts = All-append (LeadsUpTo most) xs zs (nodes_up_to p (n + 1) n most (omega arith) (omega arith))
    (nodes_up_to rest end next most (omega arith) high) in
    All-cons (LeadsUpTo most) (node (Test t) (Branch first second)) (xs ++ zs) here parts

-- control goes on from each node to a node or to the exit
pub leads_within : (text : TextView) (g : List Node) → g ≡ flow_nodes text → (i j : ℕ) (x : Node)
    → slice_get g i ≡ Some x → LeadsTo x j → j ≤ length g
leads_within text g is i j x at to =
    let len : length g ≡ node_count text = ap length is ∙ length-nodes_of text 0 (node_count text) in
    let all = All-same (LeadsUpTo (length g)) g (flow_nodes text) is
    (nodes_up_to text 0 (node_count text) (length g) (omega arith) (omega arith)) in
    let here = All-get_or (LeadsUpTo (length g)) g i x (slice_get_within g i x at) all in
    subst (LeadsUpTo (length g)) (get_or_from_slice_get g i x x at) here j to
