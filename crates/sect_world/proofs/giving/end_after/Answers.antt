-- At the exit of the graph nothing is left to run, and before it something is.
use Rattle.std.proofs.Common.{◌<◌, ◌≤◌, Some, None, length, sym, ap, ◌∙◌, subst, arith}
use Rattle.std.specs.Prelude.{slice_get}
use Rattle.sect_types.specs.declared.meaning.store.End.TheVariants.{Done}
use Rattle.sect_graph.specs.{Graphs.{GraphView}, Rests.{rest_at}}
use Rattle.sect_names.specs.Schemes.{SchemeView}
use Rattle.sect_emit.specs.Graphed.{text_at}
use Rattle.sect_world.specs.Viewing.{EndsSo}
use Rattle.sect_world.proofs.Opening.{ends_on, ends_off}
use Rattle.sect_world.proofs.giving.end_after.Goals as goal

pub returns-then-node-exit : goal.returns-then-node-exit
returns-then-node-exit c =
    let t = c.args.thread in
    let same = c.graph.ensures ∙ ap (λ (s : SchemeView). s.graphs) c.scheme.ensures in
    let at = sym (ap (λ (g : GraphView). slice_get g.threads t) same) ∙ c.thread-flow.ensures in
    let before : c.args.node < length c.thread-flow.result.now =
    omega (arith, c.if-node-exit.true, c.exit.ensures.number) in
    subst (λ how. EndsSo how (rest_at (text_at c.args.compiled.now t) c.args.node) None) (sym c.in-None.is)
    (ends_on c.args.compiled.now c.facts.ensures.compiled t c.requires c.thread-flow.result.now at c.args.node before)

pub returns-else-node-exit : goal.returns-else-node-exit
returns-else-node-exit c =
    let t = c.args.thread in
    let same = c.graph.ensures ∙ ap (λ (s : SchemeView). s.graphs) c.scheme.ensures in
    let at = sym (ap (λ (g : GraphView). slice_get g.threads t) same) ∙ c.thread-flow.ensures in
    let past : length c.thread-flow.result.now ≤ c.args.node =
    omega (arith, c.if-node-exit.false, c.exit.ensures.number) in
    subst (λ how. EndsSo how (rest_at (text_at c.args.compiled.now t) c.args.node) (Some Done)) (sym c.in-None.is)
    (ends_off c.args.compiled.now c.facts.ensures.compiled t c.requires c.thread-flow.result.now at c.args.node past)
