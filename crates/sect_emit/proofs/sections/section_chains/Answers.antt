use Rattle.std.proofs.{Common.{◌≡◌, [], Some, ap, ◌∙◌, subst}, lemmas.Result.{IfOk-weaker}}
use Rattle.std.specs.Prelude.{slice_get, slice_index_or}
use Rattle.sect_types.specs.{Programs.{ProgramView}, Sections.{sections_of, section_shown}}
use Rattle.sect_graph.specs.Graphs.{GraphView}
use Rattle.sect_names.specs.Schemes.{SchemeView}
use Rattle.sect_emit.proofs.Explained.{set_here, chained_here}
use Rattle.sect_emit.proofs.shared.Graphed.{section_graph}
use Rattle.sect_emit.proofs.sections.section_chains.Goals as goal

pub returns-clause-chained : goal.returns-clause-chained
returns-clause-chained c =
    let v = c.args.compiled.now in
    let i = c.args.section in
    let flow = c.section-graph.result.now in
    let s = section_shown c.section-there.result in
    let program = c.program-program.ensures ∙ ap (λ (s : SchemeView). s.program) c.scheme.ensures in
    let graphs = c.graph.ensures ∙ ap (λ (s : SchemeView). s.graphs) c.scheme-2.ensures in
    let here = subst (λ (p : ProgramView). slice_get (sections_of p.texts) i ≡ Some s) program
    c.section-there.ensures.section in
    let there = subst (λ (g : GraphView). slice_get g.sections i ≡ Some flow) graphs c.section-graph.ensures in
    let graph = section_graph v c.facts.ensures.compiled c.graph.result.now graphs i s flow here
    c.section-graph.ensures in
    IfOk-weaker c.chains.result _ _ (λ chains h. chained_here v i s here flow chains.items graph h)
    (c.chains.ensures.chains s flow (slice_index_or v.sets i []) here there
    (set_here v i s here c.facts.ensures.compiled))
