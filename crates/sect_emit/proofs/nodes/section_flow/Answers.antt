use Rattle.std.proofs.Common.{◌≡◌, Some, ap, ◌∙◌, subst}
use Rattle.std.specs.Prelude.{slice_get}
use Rattle.sect_types.specs.{Programs.{ProgramView}, Sections.{sections_of, section_shown}}
use Rattle.sect_graph.specs.Graphs.{GraphView}
use Rattle.sect_names.specs.Schemes.{SchemeView}
use Rattle.sect_emit.proofs.Noded.{flow_here}
use Rattle.sect_emit.proofs.nodes.section_flow.Goals as goal

pub returns : goal.returns
returns c =
    let v = c.args.compiled.now in
    let i = c.args.section in
    let flow = c.section.result.now in
    let s = section_shown c.section-there.result in
    let program = c.program.ensures ∙ ap (λ (s : SchemeView). s.program) c.scheme.ensures in
    let graphs = c.graph.ensures ∙ ap (λ (s : SchemeView). s.graphs) c.scheme-2.ensures in
    let here = subst (λ (p : ProgramView). slice_get (sections_of p.texts) i ≡ Some s) program
    c.section-there.ensures.section in
    let there = subst (λ (g : GraphView). slice_get g.sections i ≡ Some flow) graphs c.section.ensures in
    flow_here v c.facts.ensures.compiled i s here flow there
