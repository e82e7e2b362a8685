use Rattle.std.proofs.Common.{◌≡◌, ◌++◌, ℕ, List, Some, [], length, sym, ap, refl, ◌∙◌, subst, arith}
use Rattle.std.proofs.lemmas.Option.{get_or_from_slice_get}
use Rattle.std.specs.{Prelude.{slice_get, slice_index_or}, String.{string_bytes}}
use Rattle.sect_lemmas.proofs.Places.{one_at}
use Rattle.sect_types.specs.{Programs.{ProgramView}, Sections.{SectionView, sections_of, section_shown}}
use Rattle.sect_types.specs.declared.expansion.action.Field.{Field}
use Rattle.sect_graph.specs.{declared.flow.Node.{Node}, Layout.{flow_nodes}}
use Rattle.sect_names.specs.{Schemes.{SchemeView}, declared.lock.Lock.{Lock}, Printing.{AreNamed}}
use Rattle.sect_emit.specs.{Compiled.{CompiledView, program_of}, Listing.{by_number}}
use Rattle.sect_emit.specs.declared.graphs.GraphOf.TheVariants as graph
use Rattle.sect_emit.proofs.shared.{Graphed.{section_graph, section_named}, Numbered.{on_ok}, Sets.{set_named}}
use Rattle.sect_conflicts.specs.Taken.{TakenView, looked_of}
use Rattle.sect_conflicts.proofs.shared.Taking.{taken_named}
use Rattle.sect_c.specs.{Statements.{node_c}, Sections.{entry_c, end_c, section_c}}
use Rattle.sect_c.proofs.Joined.{joined}
use Rattle.sect_c.proofs.sections.put_section.Goals as goal

-- by what its functions give
section_told : (c : CompiledView) (taken : TakenView) (i : ℕ) (of : SectionView) (p : ProgramView) (looked : List Field)
    (set paths : List Lock) (thread exit : ℕ) (flow : List Node) → p ≡ program_of c → looked ≡ looked_of taken
    → set ≡ slice_index_or c.sets i [] → paths ≡ slice_index_or taken.paths i [] → thread ≡ of.thread
    → exit ≡ length flow → flow ≡ flow_nodes of.body
    → entry_c p i set paths
    ++ by_number (node_c p looked (record { graph = graph.Section i; thread = thread; exit = exit })) 0 flow
    ++ end_c i exit ≡ section_c c taken i of
section_told c taken i of p looked set paths thread exit flow a b d k e f g = rw (a, b, d, k, e, f, g) refl

pub paths-paths-requires : goal.paths-paths-requires
paths-paths-requires c = omega (arith, c.requires.within, c.requires.emitted.keys.path_count)

pub put_entry-requires-clause-paths : goal.put_entry-requires-clause-paths
put_entry-requires-clause-paths c =
    subst (λ (p : ProgramView). AreNamed p c.paths-paths.result.now)
    (sym (c.program-program.ensures ∙ ap (λ (s : SchemeView). s.program) c.scheme.ensures))
    (taken_named c.args.emitted.now.compiled.now c.facts.ensures.compiled c.args.emitted.now.taken.now
    c.requires.emitted.keys c.args.section c.paths-paths.result.now c.paths-paths.ensures)

pub put_entry-requires-clause-locks : goal.put_entry-requires-clause-locks
put_entry-requires-clause-locks c =
    subst (λ (p : ProgramView). AreNamed p c.set.result.now)
    (sym (c.program-program.ensures ∙ ap (λ (s : SchemeView). s.program) c.scheme.ensures))
    (set_named c.args.emitted.now.compiled.now c.facts.ensures.compiled c.args.section c.set.result.now c.set.ensures)

pub put_nodes-requires : goal.put_nodes-requires
put_nodes-requires c =
    section_named c.args.emitted.now.compiled.now c.facts.ensures.compiled c.graph.result.now
    (c.graph.ensures ∙ ap (λ (s : SchemeView). s.graphs) c.scheme-2.ensures) c.program-program.result.now
    (c.program-program.ensures ∙ ap (λ (s : SchemeView). s.program) c.scheme.ensures) c.args.section
    (section_shown c.section.result) c.section-flow.result.now c.section.ensures.section c.section-flow.ensures
    c.section.ensures.sound

pub returns : goal.returns
returns c =
    let v = c.args.emitted.now.compiled.now in
    let i = c.args.section in
    let flow = c.section-flow.result.now in
    let s = section_shown c.section.result in
    let p = c.program-program.result.now in
    let looked = c.args.emitted.now.looked.now in
    let set = c.set.result.now in
    let taken = c.args.emitted.now.taken.now in
    let paths = c.paths-paths.result.now in
    let exit = c.exit-exit.result in
    let old = string_bytes c.args.text.now in
    let entry = entry_c p i set paths in
    let nodes = by_number (node_c p looked (record { graph = graph.Section i; thread = s.thread; exit = exit })) 0 flow in
    let program = c.program-program.ensures ∙ ap (λ (s : SchemeView). s.program) c.scheme.ensures in
    let here = subst (λ (p : ProgramView). slice_get (sections_of p.texts) i ≡ Some s) program
    c.section.ensures.section in
    on_ok c.put_end.result c.put_end.ensures (λ put of at.
    joined old (entry ++ nodes) (end_c i exit) (string_bytes c.put_nodes.new.text) (string_bytes c.put_end.new.text)
    (joined old entry nodes (string_bytes c.put_entry.new.text) (string_bytes c.put_nodes.new.text)
    c.in_ok-put_entry.ensures c.in_ok-put_nodes.ensures) put
    ∙ ap (λ w. old ++ w) (section_told v taken i of p looked set paths s.thread exit flow program c.requires.emitted.fields
    (sym (get_or_from_slice_get v.sets i set [] c.set.ensures))
    (sym (get_or_from_slice_get taken.paths i paths [] c.paths-paths.ensures))
    (ap (λ (x : SectionView). x.thread) (one_at (sections_of v.scheme.program.texts) i s of here at)) c.exit-exit.ensures.number
    (section_graph v c.facts.ensures.compiled c.graph.result.now
    (c.graph.ensures ∙ ap (λ (s : SchemeView). s.graphs) c.scheme-2.ensures) i of flow at c.section-flow.ensures)))
