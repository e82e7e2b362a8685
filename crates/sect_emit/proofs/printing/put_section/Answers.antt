use Rattle.std.proofs.{Common.{◌≡◌, ◌++◌, Some, [], sym, ap, ◌∙◌, subst}, lemmas.Option.{get_or_from_slice_get}}
use Rattle.std.specs.{Prelude.{slice_get, slice_index_or}, String.{string_bytes}}
use Rattle.sect_types.specs.{Programs.{ProgramView}, Sections.{SectionView, sections_of, section_shown}}
use Rattle.sect_lemmas.proofs.Places.{one_at}
use Rattle.sect_names.specs.{Schemes.{SchemeView}, Printing.{AreNamed}}
use Rattle.sect_emit.specs.Listing.{section_lines}
use Rattle.sect_emit.proofs.shared.{Graphed.{section_graph, section_named}, Numbered.{on_ok}}
use Rattle.sect_emit.proofs.shared.Sets.{set_named}
use Rattle.sect_emit.proofs.printing.put_section.Goals as goal

pub put_section_lines-requires-clause-locks : goal.put_section_lines-requires-clause-locks
put_section_lines-requires-clause-locks c =
    let program = c.program-program.ensures ∙ ap (λ (s : SchemeView). s.program) c.scheme.ensures in
    subst (λ (p : ProgramView). AreNamed p c.set.result.now) (sym program)
    (set_named c.args.compiled.now c.facts.ensures.compiled c.args.section c.set.result.now c.set.ensures)

pub put_section_lines-requires-clause-nodes : goal.put_section_lines-requires-clause-nodes
put_section_lines-requires-clause-nodes c =
    section_named c.args.compiled.now c.facts.ensures.compiled c.graph.result.now
    (c.graph.ensures ∙ ap (λ (s : SchemeView). s.graphs) c.scheme-2.ensures) c.program-program.result.now
    (c.program-program.ensures ∙ ap (λ (s : SchemeView). s.program) c.scheme.ensures) c.args.section
    (section_shown c.section.result) c.section-2.result.now c.section.ensures.section c.section-2.ensures
    c.section.ensures.sound

pub returns : goal.returns
returns c =
    let v = c.args.compiled.now in
    let i = c.args.section in
    let flow = c.section-2.result.now in
    let s = section_shown c.section.result in
    let old = string_bytes c.args.text.now in
    let t = v.scheme.program.source in
    let part = c.part.result.now in
    let set = c.set.result.now in
    let program = c.program-program.ensures ∙ ap (λ (s : SchemeView). s.program) c.scheme.ensures in
    let here = subst (λ (p : ProgramView). slice_get (sections_of p.texts) i ≡ Some s) program
    c.section.ensures.section in
    on_ok c.put_section_lines.result c.put_section_lines.ensures (λ put of at. put
    ∙ (ap (λ (p : ProgramView). old ++ section_lines p.source i s.thread part set flow) program
    ∙ (ap (λ (x : SectionView). old ++ section_lines t i x.thread part set flow)
    (one_at (sections_of v.scheme.program.texts) i s of here at)
    ∙ (ap (λ gs. old ++ section_lines t i of.thread gs set flow)
    (sym (get_or_from_slice_get v.parts i part [] c.part.ensures))
    ∙ (ap (λ ls. old ++ section_lines t i of.thread (slice_index_or v.parts i []) ls flow)
    (sym (get_or_from_slice_get v.sets i set [] c.set.ensures))
    ∙ ap (λ g. old ++ section_lines t i of.thread (slice_index_or v.parts i []) (slice_index_or v.sets i []) g)
    (section_graph v c.facts.ensures.compiled c.graph.result.now
    (c.graph.ensures ∙ ap (λ (s : SchemeView). s.graphs) c.scheme-2.ensures) i of flow at c.section-2.ensures))))))
