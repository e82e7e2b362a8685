use Rattle.std.proofs.Common.{◌≡◌, ◌++◌, ℕ, List, length, refl, ap, ◌∙◌}
use Rattle.std.specs.String.{string_bytes}
use Rattle.sect_types.specs.{Programs.{ProgramView}, Statements.{TextView}}
use Rattle.sect_types.specs.declared.expansion.action.Field.{Field}
use Rattle.sect_graph.specs.{declared.flow.Node.{Node}, Layout.{flow_nodes}}
use Rattle.sect_names.specs.Schemes.{SchemeView}
use Rattle.sect_emit.specs.{Compiled.{CompiledView, program_of}, Listing.{by_number}}
use Rattle.sect_emit.specs.declared.graphs.GraphOf.TheVariants as graph
use Rattle.sect_emit.proofs.shared.{Graphed.{thread_graph, thread_named}, Numbered.{on_ok}}
use Rattle.sect_conflicts.specs.Taken.{TakenView, looked_of}
use Rattle.sect_c.specs.{Statements.{node_c}, Sections.{exit_c, thread_statements_c}}
use Rattle.sect_c.proofs.Joined.{joined}
use Rattle.sect_c.proofs.threads.put_statements.Goals as goal

-- by what its functions give
statements_told : (c : CompiledView) (taken : TakenView) (u : ℕ) (of : TextView) (p : ProgramView) (looked : List Field) (exit : ℕ)
    (flow : List Node) → p ≡ program_of c → looked ≡ looked_of taken → exit ≡ length flow → flow ≡ flow_nodes of
    → by_number (node_c p looked (record { graph = graph.Thread u; thread = u; exit = exit })) 0 flow ++ exit_c u exit
    ≡ thread_statements_c c taken u of
statements_told c taken u of p looked exit flow a b d e = rw (a, b, d, e) refl

pub put_nodes-requires : goal.put_nodes-requires
put_nodes-requires c =
    thread_named c.args.emitted.now.compiled.now c.facts.ensures.compiled c.graph.result.now
    (c.graph.ensures ∙ ap (λ (s : SchemeView). s.graphs) c.scheme-2.ensures) c.program-program.result.now
    (c.program-program.ensures ∙ ap (λ (s : SchemeView). s.program) c.scheme.ensures) c.args.thread
    c.text-facts.result.now c.thread-flow.result.now c.text-facts.ensures.text c.thread-flow.ensures
    c.text-facts.ensures.sound

pub returns : goal.returns
returns c =
    let v = c.args.emitted.now.compiled.now in
    let u = c.args.thread in
    let flow = c.thread-flow.result.now in
    let p = c.program-program.result.now in
    let looked = c.args.emitted.now.looked.now in
    let exit = c.exit-exit.result in
    let old = string_bytes c.args.text.now in
    let nodes = by_number (node_c p looked (record { graph = graph.Thread u; thread = u; exit = exit })) 0 flow in
    on_ok c.put_exit.result c.put_exit.ensures (λ put of at.
    joined old nodes (exit_c u exit) (string_bytes c.put_nodes.new.text)
    (string_bytes c.put_exit.new.text) c.in_ok-put_nodes.ensures put
    ∙ ap (λ w. old ++ w) (statements_told v c.args.emitted.now.taken.now u of p looked exit flow
    (c.program-program.ensures ∙ ap (λ (s : SchemeView). s.program) c.scheme.ensures) c.requires.emitted.fields
    c.exit-exit.ensures.number (thread_graph v c.facts.ensures.compiled c.graph.result.now
    (c.graph.ensures ∙ ap (λ (s : SchemeView). s.graphs) c.scheme-2.ensures) u of flow at c.thread-flow.ensures)))
