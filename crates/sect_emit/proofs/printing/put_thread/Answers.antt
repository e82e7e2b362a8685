use Rattle.std.proofs.Common.{◌++◌, ap, ◌∙◌}
use Rattle.std.specs.String.{string_bytes}
use Rattle.sect_types.specs.Programs.{ProgramView}
use Rattle.sect_names.specs.Schemes.{SchemeView}
use Rattle.sect_emit.specs.Listing.{thread_lines}
use Rattle.sect_emit.proofs.shared.{Graphed.{thread_graph, thread_named}, Numbered.{on_ok}}
use Rattle.sect_emit.proofs.printing.put_thread.Goals as goal

pub put_thread_lines-requires-clause-named : goal.put_thread_lines-requires-clause-named
put_thread_lines-requires-clause-named c =
    thread_named c.args.compiled.now c.facts.ensures.compiled c.graph.result.now
    (c.graph.ensures ∙ ap (λ (s : SchemeView). s.graphs) c.scheme-2.ensures) c.program-program.result.now
    (c.program-program.ensures ∙ ap (λ (s : SchemeView). s.program) c.scheme.ensures) c.args.thread
    c.text-facts.result.now c.thread-flow.result.now c.text-facts.ensures.text c.thread-flow.ensures
    c.text-facts.ensures.sound

pub returns : goal.returns
returns c =
    let v = c.args.compiled.now in
    let old = string_bytes c.args.text.now in
    let flow = c.thread-flow.result.now in
    on_ok c.put_thread_lines.result c.put_thread_lines.ensures (λ put of at. put
    ∙ (ap (λ (p : ProgramView). old ++ thread_lines p.source c.args.thread flow)
    (c.program-program.ensures ∙ ap (λ (s : SchemeView). s.program) c.scheme.ensures)
    ∙ ap (λ g. old ++ thread_lines v.scheme.program.source c.args.thread g)
    (thread_graph v c.facts.ensures.compiled c.graph.result.now
    (c.graph.ensures ∙ ap (λ (s : SchemeView). s.graphs) c.scheme-2.ensures) c.args.thread of flow at
    c.thread-flow.ensures)))
