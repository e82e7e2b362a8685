use Rattle.std.proofs.Common.{◌≡◌, sym, ap, ◌∙◌, subst, slice_get, Some}
use Rattle.sect_lemmas.proofs.Places.{at_of, told_of}
use Rattle.sect_graph.specs.{declared.flow.Node.{Node}, Graphs.{GraphView}, Rests.{Begins, rest_at}}
use Rattle.sect_names.specs.Schemes.{SchemeView}
use Rattle.sect_emit.specs.Graphed.{text_at}
use Rattle.sect_world.proofs.NodeSteps.{thread_graph, after_node}
use Rattle.sect_world.proofs.outside.begin.Goals as goal

pub returns-clause-text : goal.returns-clause-text
returns-clause-text c = λ i body k is.
    let m = c.args.compiled.now in
    let t = c.args.thread in
    let j = c.args.runner.now.node in
    let g = c.thread-flow.result.now in
    let graph : slice_get m.scheme.graphs.threads t ≡ Some g =
    ap (λ (g : GraphView). slice_get g.threads t)
    (sym (c.graph.ensures ∙ ap (λ (s : SchemeView). s.graphs) c.scheme.ensures)) ∙ c.thread-flow.ensures in
    let x = at_of g j (c.requires.node g graph) in
    let b = subst (Begins (rest_at (text_at m t)) x.0) is
    ((thread_graph m c.facts.ensures.compiled t c.requires.thread g graph).running.begins j x.0 x.1) in
    after_node (rest_at (text_at m t)) x.0 i body k c.succ.result c.chosen-runner.result b
    (told_of (λ (y : Node). y.next) g j c.succ.result c.succ.ensures x.0 x.1) c.chosen-runner.ensures
