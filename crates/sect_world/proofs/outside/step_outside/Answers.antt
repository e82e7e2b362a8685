use Rattle.std.proofs.Common.{◌≡◌, ◌<◌, ◌≤◌, sym, ap, ◌∙◌, slice_get, Some, length, arith}
use Rattle.sect_graph.specs.{Graphs.{GraphView}, Rests.{rest_at}}
use Rattle.sect_names.specs.Schemes.{SchemeView}
use Rattle.sect_emit.specs.Graphed.{text_at}
use Rattle.sect_world.proofs.NodeSteps.{at_exit, before_exit, settled_at_exit}
use Rattle.sect_world.proofs.outside.step_outside.Goals.{After-thread-flow}
use Rattle.sect_world.proofs.outside.step_outside.Goals as goal

-- the graph is the thread's
graph_at : (c : After-thread-flow)
    → slice_get c.args.compiled.now.scheme.graphs.threads c.args.thread ≡ Some c.thread-flow.result.now
graph_at c = ap (λ (g : GraphView). slice_get g.threads c.args.thread)
    (sym (c.graph.ensures ∙ ap (λ (s : SchemeView). s.graphs) c.scheme.ensures)) ∙ c.thread-flow.ensures

pub run_outside-requires-clause-flow : goal.run_outside-requires-clause-flow
run_outside-requires-clause-flow c = graph_at (goal.at.run_outside-requires-clause-flow c).After-thread-flow

pub run_outside-requires-clause-node : goal.run_outside-requires-clause-node
run_outside-requires-clause-node c =
    c.requires.node _ (graph_at (goal.at.run_outside-requires-clause-node c).After-thread-flow)

pub returns-then-next-exit-clause-steps : goal.returns-then-next-exit-clause-steps
returns-then-next-exit-clause-steps c =
    let m = c.args.compiled.now in
    let t = c.args.thread in
    let g = c.thread-flow.result.now in
    let graph = graph_at (goal.at.returns-then-next-exit-clause-steps c).After-thread-flow in
    let past : length g ≤ c.in-Ok.next = omega (arith, c.exit.ensures.number, c.if-next-exit.true) in
    settled_at_exit (rest_at (text_at m t) c.in-Ok.next) c.run_outside.new.work
    (at_exit m c.facts.ensures.compiled t g c.in-Ok.next c.requires.thread graph past)
    ∙ c.in_ok-next.ensures.steps.on c.in-Ok.next c.in-Ok.is

pub returns-else-next-exit-clause-steps : goal.returns-else-next-exit-clause-steps
returns-else-next-exit-clause-steps c =
    let m = c.args.compiled.now in
    let t = c.args.thread in
    let g = c.thread-flow.result.now in
    let graph = graph_at (goal.at.returns-else-next-exit-clause-steps c).After-thread-flow in
    let before : c.in-Ok.next < length g = omega (arith, c.exit.ensures.number, c.if-next-exit.false) in
    rw c.requires.alive
    (sym (before_exit m c.facts.ensures.compiled t g c.in-Ok.next c.requires.thread graph before
    c.run_outside.new.work) ∙ c.in_ok-next.ensures.steps.on c.in-Ok.next c.in-Ok.is)
