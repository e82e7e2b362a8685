use Rattle.std.proofs.{Common.{◌≡◌, Some, [], ap, sym, ◌∙◌, subst, map}, lemmas.List.{get_or-map}}
use Rattle.std.specs.{Prelude.{slice_get}, String.{string_bytes}}
use Rattle.sect_types.specs.{Programs.{ProgramView}, Sections.{sections_of, section_shown}}
use Rattle.sect_graph.specs.Graphs.{GraphView}
use Rattle.sect_names.specs.Schemes.{SchemeView}
use Rattle.sect_emit.proofs.Explained.{explained}
use Rattle.sect_emit.proofs.shared.{Graphed.{section_graph, section_named}, Numbered.{on_ok}}
use Rattle.sect_emit.proofs.explaining.put_explained_section.Goals as goal

pub put_explained-requires-clause-nodes : goal.put_explained-requires-clause-nodes
put_explained-requires-clause-nodes c =
    section_named c.args.compiled.now c.facts.ensures.compiled c.graph.result.now
    (c.graph.ensures ∙ ap (λ (s : SchemeView). s.graphs) c.scheme-2.ensures) c.program-program.result.now
    (c.program-program.ensures ∙ ap (λ (s : SchemeView). s.program) c.scheme.ensures) c.args.section
    (section_shown c.section.result) c.section-2.result.now c.section.ensures.section c.section-2.ensures
    c.section.ensures.sound

pub returns : goal.returns
returns c =
    let v = c.args.compiled.now in
    let i = c.args.section in
    let flow = c.section-2.result.now in
    let s = section_shown c.section.result in
    let program = c.program-program.ensures ∙ ap (λ (s : SchemeView). s.program) c.scheme.ensures in
    let graphs = c.graph.ensures ∙ ap (λ (s : SchemeView). s.graphs) c.scheme-2.ensures in
    let placed = c.index-lines-section.result in
    let lines = c.as_slice.ensures.value ∙ ap (λ v. v.items) c.index-lines-section.is
    ∙ sym (get_or-map (λ v. v.items) c.args.lines.now i placed [] c.requires.lines) in
    let here = subst (λ (p : ProgramView). slice_get (sections_of p.texts) i ≡ Some s) program
    c.section.ensures.section in
    let there = subst (λ (g : GraphView). slice_get g.sections i ≡ Some flow) graphs c.section-2.ensures in
    on_ok c.put_explained.result c.put_explained.ensures (λ put.
    explained v c.facts.ensures.compiled c.program-program.result.now program i s flow here
    (section_graph v c.facts.ensures.compiled c.graph.result.now graphs i s flow here c.section-2.ensures)
    (map (λ v. v.items) c.args.lines.now) c.as_slice.result.now lines
    (string_bytes c.args.text.now) (string_bytes c.put_explained.new.text) c.as_slice-2.result.now
    c.in_ok-chains.chains.items c.as_slice-2.ensures.value put
    (λ set at. c.in_ok-chains.ensures.chains s flow set here there at))
