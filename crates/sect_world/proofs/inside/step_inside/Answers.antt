use Rattle.std.proofs.Common.{◌≡◌, true, sym, ap, ◌∙◌, slice_get, Some}
use Rattle.sect_types.specs.Meaning.{begins_step}
use Rattle.sect_lemmas.proofs.Places.{at_of}
use Rattle.sect_graph.specs.{declared.flow.Node.{Node}, Graphs.{GraphView}, Rests.{Begins, rest_at}}
use Rattle.sect_names.specs.Schemes.{SchemeView}
use Rattle.sect_table.specs.Contents.{held_by}
use Rattle.sect_world.specs.{declared.runner.Phase.{Phase}, Events.{step_in}, Viewing.{body_at, thread_of}}
use Rattle.sect_world.specs.steps.Moves.{grips_by}
use Rattle.sect_world.proofs.NodeSteps.{inside_step, step_label, stage_by, acted, acted_store, more_held}
use Rattle.sect_world.proofs.inside.step_inside.Goals.{After-section-flow, in-Ok, in-Err}
use Rattle.sect_world.proofs.inside.step_inside.Goals as goal

-- the graph is the section's
graph_at : (c : After-section-flow)
    → slice_get c.args.compiled.now.scheme.graphs.sections c.args.at.section ≡ Some c.section-flow.result.now
graph_at c = ap (λ (g : GraphView). slice_get g.sections c.args.at.section)
    (sym (c.graph.ensures ∙ ap (λ (s : SchemeView). s.graphs) c.scheme.ensures)) ∙ c.section-flow.ensures

-- the node begins what is left of the section, which is a step
node_at : (c : After-section-flow)
    → (x : Node) × (slice_get c.section-flow.result.now c.args.at.node ≡ Some x)
    × Begins (rest_at (body_at c.args.compiled.now c.args.at.section)) x
    (rest_at (body_at c.args.compiled.now c.args.at.section) c.args.at.node)
    × (begins_step (rest_at (body_at c.args.compiled.now c.args.at.section) c.args.at.node) ≡ true)
node_at c =
    let x = at_of c.section-flow.result.now c.args.at.node (c.requires.node c.section-flow.result.now (graph_at c)) in
    let b = inside_step c.args.compiled.now c.facts.ensures.compiled c.args.at.thread c.args.at.section c.args.at.node
    c.section-flow.result.now x.0 c.requires.section (graph_at c) x.1 c.requires.text in
    (x.0, x.1, b.0, b.1)

pub run_inside-requires-clause-step : goal.run_inside-requires-clause-step
run_inside-requires-clause-step c = λ x at.
    let m = c.args.compiled.now in
    let graph = graph_at (goal.at.run_inside-requires-clause-step c).After-section-flow in
    let b = inside_step m c.facts.ensures.compiled c.args.at.thread c.args.at.section c.args.at.node
    c.section-flow.result.now x c.requires.section graph at c.requires.text in
    step_label (rest_at (body_at m c.args.at.section)) x (rest_at (body_at m c.args.at.section) c.args.at.node) b.1 b.0

pub returns-clause-acts : goal.returns-clause-acts
returns-clause-acts c = λ text.
    let m = c.args.compiled.now in
    let t = c.args.at.thread in
    let i = c.args.at.section in
    let k = rest_at (body_at m i) c.args.at.node in
    let x = node_at (goal.at.returns-clause-acts c).After-section-flow in
    let goes = c.in_ok-went.ensures.goes (rest_at (body_at m i)) k x.0 x.1 x.2 x.3 in
    let more = c.in_ok-went.ensures.table (rest_at (body_at m i)) k x.0 x.1 x.2 c.requires.text in
    let n = step_in m t k c.args.runner.now.work c.args.store.now in
    let phase : c.match-went.runner ≡ stage_by i c.in_ok-went.went = elim c.match-went.branch [
      | in-Ok w ↦ w.runner-is ∙ ap (stage_by i) (sym w.in-Ok.is)
      | in-Err w ↦ w.runner-is ∙ ap (stage_by i) (sym w.in-Err.is)
    ] in
    ap (λ (z : Phase). thread_of m text (record c.args.runner.now { phase = z; work = c.run_inside.new.work })
    (held_by c.run_inside.new.table t)) phase
    ∙ acted m t i n c.in_ok-went.went text c.args.runner.now c.run_inside.new.work c.args.store.now
    c.run_inside.new.store (held_by c.args.table.now t) (held_by c.run_inside.new.table t) goes
    (more_held t (grips_by m t c.args.runner.now.work.made n) c.args.table.now c.run_inside.new.table c.requires.thread
    more)

pub returns-clause-store : goal.returns-clause-store
returns-clause-store c =
    let m = c.args.compiled.now in
    let t = c.args.at.thread in
    let k = rest_at (body_at m c.args.at.section) c.args.at.node in
    let x = node_at (goal.at.returns-clause-store c).After-section-flow in
    let goes = c.in_ok-went.ensures.goes (rest_at (body_at m c.args.at.section)) k x.0 x.1 x.2 x.3 in
    acted_store (rest_at (body_at m c.args.at.section)) t c.args.store.now c.run_inside.new.store
    (step_in m t k c.args.runner.now.work c.args.store.now) c.in_ok-went.went c.run_inside.new.work goes

pub returns-clause-table : goal.returns-clause-table
returns-clause-table c =
    let rest = rest_at (body_at c.args.compiled.now c.args.at.section) in
    let x = node_at (goal.at.returns-clause-table c).After-section-flow in
    c.in_ok-went.ensures.table rest (rest c.args.at.node) x.0 x.1 x.2 c.requires.text
