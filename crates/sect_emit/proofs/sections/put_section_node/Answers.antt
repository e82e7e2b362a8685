use Rattle.std.proofs.Common.{◌≡◌, ◌++◌, Some, ap, ◌∙◌, subst}
use Rattle.std.specs.{Prelude.{slice_get}, String.{string_bytes}}
use Rattle.sect_types.specs.{Programs.{ProgramView}, Sections.{sections_of, section_shown}}
use Rattle.sect_names.specs.Schemes.{SchemeView}
use Rattle.sect_emit.proofs.Explained.{deed_here}
use Rattle.sect_emit.proofs.shared.{Graphed.{section_graph, section_named}, Numbered.{on_ok}}
use Rattle.sect_emit.proofs.sections.put_section_node.Goals as goal

pub put_deed-requires : goal.put_deed-requires
put_deed-requires c =
    section_named c.args.compiled.now c.facts.ensures.compiled c.graph.result.now
    (c.graph.ensures ∙ ap (λ (s : SchemeView). s.graphs) c.scheme-2.ensures) c.program-program.result.now
    (c.program-program.ensures ∙ ap (λ (s : SchemeView). s.program) c.scheme.ensures) c.args.section
    (section_shown c.section-thread.result) c.section-flow.result.now c.section-thread.ensures.section
    c.section-flow.ensures c.section-thread.ensures.sound

pub returns : goal.returns
returns c =
    let v = c.args.compiled.now in
    let i = c.args.section in
    let flow = c.section-flow.result.now in
    let s = section_shown c.section-thread.result in
    let program = c.program-program.ensures ∙ ap (λ (s : SchemeView). s.program) c.scheme.ensures in
    let graphs = c.graph.ensures ∙ ap (λ (s : SchemeView). s.graphs) c.scheme-2.ensures in
    let here = subst (λ (p : ProgramView). slice_get (sections_of p.texts) i ≡ Some s) program
    c.section-thread.ensures.section in
    let graph = section_graph v c.facts.ensures.compiled c.graph.result.now graphs i s flow here
    c.section-flow.ensures in
    on_ok c.put_deed.result c.put_deed.ensures (λ put.
    put ∙ ap (λ t. string_bytes c.args.text.now ++ t)
    (deed_here v i s here c.program-program.result.now flow c.args.node program graph))
