use Rattle.std.proofs.{Common.{◌≡◌, ◌++◌, Some, sym, ap, ◌∙◌, subst}, lemmas.Option.{get_or_from_slice_get}}
use Rattle.std.specs.{Prelude.{slice_get, option_map}, String.{string_bytes}}
use Rattle.sect_types.specs.{Programs.{ProgramView}, Statements.{Stop}}
use Rattle.sect_graph.specs.Layout.{flow_nodes}
use Rattle.sect_names.specs.Schemes.{SchemeView}
use Rattle.sect_emit.specs.Explaining.{deed_text}
use Rattle.sect_emit.proofs.shared.{Graphed.{thread_graph, thread_named}, Numbered.{on_ok}}
use Rattle.sect_emit.proofs.graphs.put_thread_node.Goals as goal

pub put_deed-requires : goal.put_deed-requires
put_deed-requires c =
    thread_named c.args.compiled.now c.facts.ensures.compiled c.graph.result.now
    (c.graph.ensures ∙ ap (λ (s : SchemeView). s.graphs) c.scheme-2.ensures) c.program-program.result.now
    (c.program-program.ensures ∙ ap (λ (s : SchemeView). s.program) c.scheme.ensures) c.args.thread
    c.text-facts.result.now c.thread-flow.result.now c.text-facts.ensures.text c.thread-flow.ensures
    c.text-facts.ensures.sound

pub returns : goal.returns
returns c =
    let v = c.args.compiled.now in
    let t = c.args.thread in
    let n = c.args.node in
    let old = string_bytes c.args.text.now in
    let text = c.text-facts.result.now in
    let flow = c.thread-flow.result.now in
    let program = c.program-program.ensures ∙ ap (λ (s : SchemeView). s.program) c.scheme.ensures in
    let graphs = c.graph.ensures ∙ ap (λ (s : SchemeView). s.graphs) c.scheme-2.ensures in
    let here = subst (λ (p : ProgramView). slice_get p.texts t ≡ Some text) program c.text-facts.ensures.text in
    let graph = thread_graph v c.facts.ensures.compiled c.graph.result.now graphs t text flow here c.thread-flow.ensures
    ∙ ap flow_nodes (sym (get_or_from_slice_get v.scheme.program.texts t text Stop here)) in
    on_ok c.put_deed.result c.put_deed.ensures (λ put. put
    ∙ (ap (λ (p : ProgramView). old ++ deed_text p.source t (option_map (λ x. x.label) (slice_get flow n))) program
    ∙ ap (λ g. old ++ deed_text v.scheme.program.source t (option_map (λ x. x.label) (slice_get g n))) graph))
