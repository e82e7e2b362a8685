use Rattle.std.proofs.Common.{◌≡◌, ◌<◌, ◌≤◌, None, Some, sym, ap, ◌∙◌, subst, slice_get, length, arith}
use Rattle.sect_types.specs.declared.meaning.store.End.TheVariants.{Done}
use Rattle.sect_graph.specs.{Graphs.{GraphView}, Rests.{rest_at}}
use Rattle.sect_names.specs.Schemes.{SchemeView}
use Rattle.sect_emit.specs.Graphed.{text_at}
use Rattle.sect_world.specs.Locals.{IsAfterStep}
use Rattle.sect_world.proofs.NodeSteps.{at_exit, before_exit, settled_at_exit}
use Rattle.sect_world.proofs.local_stretch.after_step.Goals.{After-exit}
use Rattle.sect_world.proofs.local_stretch.after_step.Goals as goal

-- the graph is the thread's
graph_at : (c : After-exit)
    → slice_get c.args.compiled.now.scheme.graphs.threads c.args.thread ≡ Some c.thread-flow.result.now
graph_at c = ap (λ (g : GraphView). slice_get g.threads c.args.thread)
    (sym (c.graph.ensures ∙ ap (λ (s : SchemeView). s.graphs) c.scheme.ensures)) ∙ c.thread-flow.ensures

pub returns-then-next-exit : goal.returns-then-next-exit
returns-then-next-exit c =
    let m = c.args.compiled.now in
    let t = c.args.thread in
    let n = c.in-Ok.next in
    let before : n < length c.thread-flow.result.now = omega (arith, c.exit.ensures.number, c.if-next-exit.true) in
    subst (λ went. IsAfterStep m t c.args.node went n None) (sym c.in-Ok.is)
    (λ w. sym (before_exit m c.facts.ensures.compiled t c.thread-flow.result.now n c.requires
    (graph_at (goal.at.returns-then-next-exit c).After-exit) before w))

pub returns-else-next-exit : goal.returns-else-next-exit
returns-else-next-exit c =
    let m = c.args.compiled.now in
    let t = c.args.thread in
    let n = c.in-Ok.next in
    let past : length c.thread-flow.result.now ≤ n = omega (arith, c.exit.ensures.number, c.if-next-exit.false) in
    subst (λ went. IsAfterStep m t c.args.node went n (Some Done)) (sym c.in-Ok.is)
    (λ w. settled_at_exit (rest_at (text_at m t) n) w
    (at_exit m c.facts.ensures.compiled t c.thread-flow.result.now n c.requires
    (graph_at (goal.at.returns-else-next-exit c).After-exit) past))
