use Rattle.std.proofs.Common.{◌≡◌, ◌<◌, length, refl, ap, arith}
use Rattle.std.proofs.lemmas.Option.{get_or_from_slice_get}
use Rattle.sect_types.specs.{Sections.{SectionView, sections_of}, Statements.{Stop}}
use Rattle.sect_warnings.proofs.lost.reached_by.Goals as goal

pub may_flow_to-requires : goal.may_flow_to-requires
may_flow_to-requires c =
    let v = c.args.compiled.now in
    let i = c.args.load.now.section in
    let texts : c.program.result.now ≡ v.scheme.program = rw (c.scheme.ensures) at c.program.ensures in
    let there = rw (texts) at c.section-there.ensures.section in
    let within : c.section-there.result.thread < length v.scheme.program.texts =
    rw (texts) at c.section-there.ensures.thread in
    let same = ap (λ (s : SectionView). s.thread)
    (get_or_from_slice_get (sections_of v.scheme.program.texts) i _ (record { thread = 0; body = Stop }) there) in
    let is = c.section_thread-thread.ensures in
    let many = c.facts.ensures.compiled.scheme.graphed.thread_count in
    let graphs : length c.graph-graph.result.now.threads ≡ length v.scheme.graphs.threads =
    rw (c.graph-graph.ensures, c.scheme-2.ensures) refl in
    omega (arith, within, same, is, many, graphs)
