-- A text without nodes is at its end.
use Rattle.std.proofs.Common.{sym, ap, ◌∙◌, arith}
use Rattle.std.specs.Prelude.{slice_get}
use Rattle.sect_graph.specs.Graphs.{GraphView}
use Rattle.sect_names.specs.Schemes.{SchemeView}
use Rattle.sect_world.proofs.Opening.{begins_on, begins_off}
use Rattle.sect_world.proofs.runner.first_end.Goals as goal

pub returns-then-exit-eq0 : goal.returns-then-exit-eq0
returns-then-exit-eq0 c =
    let t = c.args.thread in
    let same = c.graph.ensures ∙ ap (λ (s : SchemeView). s.graphs) c.scheme.ensures in
    let at = sym (ap (λ (g : GraphView). slice_get g.threads t) same) ∙ c.thread-flow.ensures in
    begins_off c.args.compiled.now c.facts.ensures.compiled t c.requires c.thread-flow.result.now at
    (omega (arith, c.if-exit-eq0.true, c.exit.ensures.number))

pub returns-else-exit-eq0 : goal.returns-else-exit-eq0
returns-else-exit-eq0 c =
    let t = c.args.thread in
    let same = c.graph.ensures ∙ ap (λ (s : SchemeView). s.graphs) c.scheme.ensures in
    let at = sym (ap (λ (g : GraphView). slice_get g.threads t) same) ∙ c.thread-flow.ensures in
    begins_on c.args.compiled.now c.facts.ensures.compiled t c.requires c.thread-flow.result.now at
    (omega (arith, c.if-exit-eq0.false, c.exit.ensures.number))
