use Rattle.std.proofs.Common.{◌++◌, ap, sym, ◌∙◌, append_assoc}
use Rattle.std.specs.Prelude.{codes}
use Rattle.sect_draw.specs.Graphs.{edge_text, edges_text}
use Rattle.sect_draw.proofs.graphing.put_successors.Goals as goal

pub returns-in_ok-put_edge-in-Branch-2 : goal.returns-in_ok-put_edge-in-Branch-2
returns-in_ok-put_edge-in-Branch-2 c =
    let old = c.args.text.now.items in
    let holds = edge_text c.args.section c.args.node c.in-Branch.holds (codes " [label=\"true\"]") in
    let fails = edge_text c.args.section c.args.node c.in-Branch.fails (codes " [label=\"false\"]") in
    c.in_ok-put_edge-in-Branch-2.ensures
    ∙ (ap (λ t. t ++ fails) c.in_ok-put_edge-in-Branch.ensures
    ∙ (append_assoc old holds fails
    ∙ ap (λ s. old ++ edges_text c.args.section c.args.node s) (sym c.in-Branch.is)))
