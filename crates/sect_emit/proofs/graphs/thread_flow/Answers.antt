use Rattle.std.proofs.{Common.{◌≡◌, Some, sym, ap, ◌∙◌, subst}, lemmas.Option.{get_or_from_slice_get}}
use Rattle.std.specs.Prelude.{slice_get}
use Rattle.sect_types.specs.{Programs.{ProgramView}, Statements.{Stop}}
use Rattle.sect_graph.specs.Layout.{flow_nodes}
use Rattle.sect_names.specs.Schemes.{SchemeView}
use Rattle.sect_emit.proofs.shared.Graphed.{thread_graph}
use Rattle.sect_emit.proofs.graphs.thread_flow.Goals as goal

pub returns : goal.returns
returns c =
    let v = c.args.compiled.now in
    let t = c.args.thread in
    let text = c.text-facts.result.now in
    let program = c.program.ensures ∙ ap (λ (s : SchemeView). s.program) c.scheme.ensures in
    let graphs = c.graph.ensures ∙ ap (λ (s : SchemeView). s.graphs) c.scheme-2.ensures in
    let here = subst (λ (p : ProgramView). slice_get p.texts t ≡ Some text) program c.text-facts.ensures.text in
    thread_graph v c.facts.ensures.compiled c.graph.result.now graphs t text c.thread.result.now here c.thread.ensures
    ∙ ap flow_nodes (sym (get_or_from_slice_get v.scheme.program.texts t text Stop here))
