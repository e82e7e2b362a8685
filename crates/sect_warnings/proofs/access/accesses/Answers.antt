use Rattle.std.proofs.Common.{◌≡◌, [], length, ap, sym, ◌∙◌, arith}
use Rattle.std.proofs.lemmas.Option.{get_or_from_slice_get}
use Rattle.std.specs.Prelude.{slice_index_or}
use Rattle.sect_types.specs.Sections.{sections_of}
use Rattle.sect_warnings.proofs.{Judging.{origins_many}, Losing.{section_more}}
use Rattle.sect_warnings.proofs.access.accesses.Goals as goal

pub add_section-requires-clause-origins : goal.add_section-requires-clause-origins
add_section-requires-clause-origins c =
    let v = c.args.compiled.now in
    let i = c.loop-section.section in
    let count : c.section_count-section-end.result ≡ length (sections_of v.scheme.program.texts) =
    rw (c.program.ensures, c.scheme.ensures) at c.section_count-section-end.ensures.count in
    origins_many v c.facts.ensures.compiled.scheme i (omega (arith, count, c.loop-section-test.true))
    c.args.origins.now c.requires c.section.result.now c.section.ensures

pub loop-section-preserved : goal.loop-section-preserved
loop-section-preserved c =
    let i = c.loop-section.section in
    section_more c.args.effect c.args.compiled.now i c.section.result.now c.loop-section.list.items
    c.add_section.new.list.items
    (ap (λ l. slice_index_or l i []) (sym c.requires.sections_are)
    ∙ get_or_from_slice_get c.args.origins.now.sections i c.section.result.now [] c.section.ensures)
    c.loop-section.invariant c.in_ok-add_section.ensures
