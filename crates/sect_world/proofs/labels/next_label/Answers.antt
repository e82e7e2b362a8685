-- The node begins what is left there.
use Rattle.std.proofs.Common.{sym, ap, ◌∙◌}
use Rattle.std.specs.Prelude.{slice_get}
use Rattle.sect_graph.specs.Graphs.{GraphView}
use Rattle.sect_names.specs.Schemes.{SchemeView}
use Rattle.sect_world.proofs.MoveTurns.{before_exit_of, next_of_node}
use Rattle.sect_world.proofs.labels.next_label.Goals as goal

pub action-requires : goal.action-requires
action-requires c =
    let t = c.args.thread in
    let same = c.graph.ensures ∙ ap (λ (s : SchemeView). s.graphs) c.scheme.ensures in
    let at = sym (ap (λ (g : GraphView). slice_get g.threads t) same) ∙ c.thread.ensures in
    before_exit_of c.args.compiled.now c.facts.ensures.compiled t c.requires.thread c.args.node c.requires.on
    c.thread.result.now at

pub returns : goal.returns
returns c =
    let t = c.args.thread in
    let same = c.graph.ensures ∙ ap (λ (s : SchemeView). s.graphs) c.scheme.ensures in
    let at = sym (ap (λ (g : GraphView). slice_get g.threads t) same) ∙ c.thread.ensures in
    next_of_node c.args.compiled.now c.facts.ensures.compiled t c.requires.thread c.args.node c.requires.on
    c.thread.result.now at c.action.result c.action.ensures
