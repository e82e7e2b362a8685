use Rattle.std.proofs.Common.{◌++◌, arith, length, ap, sym, ◌∙◌}
use Rattle.std.specs.String.{string_bytes}
use Rattle.sect_types.specs.{Programs.{ProgramView}, Sections.{sections_of}}
use Rattle.sect_names.specs.Schemes.{SchemeView}
use Rattle.sect_c.specs.Declarations.{plan_c}
use Rattle.sect_emit.specs.Listing.{by_number}
use Rattle.sect_emit.proofs.shared.Numbered.{added_on, all_added}
use Rattle.sect_c.proofs.program.put_plans.Goals as goal

pub loop-section-preserved : goal.loop-section-preserved
loop-section-preserved c =
    let count = c.section_count-section-end.ensures.count ∙ ap (λ (p : ProgramView). length (sections_of p.texts))
    (c.program-program.ensures ∙ ap (λ (s : SchemeView). s.program) c.scheme.ensures)
    ∙ sym c.requires.keys.part_count in
    let parts = c.args.emitted.now.taken.now.parts in
    let line = plan_c in
    added_on line parts c.loop-section.section c.part.result.now (string_bytes c.loop-section.text) (string_bytes c.put_plan.new.text)
    (string_bytes c.args.text.now ++ by_number line 0 parts) c.part.ensures c.in_ok-put_plan.ensures c.loop-section.invariant

pub returns : goal.returns
returns c =
    let count = c.section_count-section-end.ensures.count ∙ ap (λ (p : ProgramView). length (sections_of p.texts))
    (c.program-program.ensures ∙ ap (λ (s : SchemeView). s.program) c.scheme.ensures)
    ∙ sym c.requires.keys.part_count in
    let parts = c.args.emitted.now.taken.now.parts in
    let line = plan_c in
    all_added line parts c.loop-section.section (string_bytes c.loop-section.text)
    (string_bytes c.args.text.now ++ by_number line 0 parts)
    (omega (arith, c.loop-section-test.false, c.loop-section.auto.section-end, count)) c.loop-section.invariant

pub part-requires : goal.part-requires
part-requires c =
    let count = c.section_count-section-end.ensures.count ∙ ap (λ (p : ProgramView). length (sections_of p.texts))
    (c.program-program.ensures ∙ ap (λ (s : SchemeView). s.program) c.scheme.ensures)
    ∙ sym c.requires.keys.part_count in
    omega (arith, c.loop-section-test.true, count)
