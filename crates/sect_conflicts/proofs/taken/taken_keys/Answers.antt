use Rattle.std.proofs.Common.{◌≡◌, ◌<◌, ◌+◌, ◌∙◌, length, arith, sym, ap, subst}
use Rattle.sect_types.specs.{Programs.{ProgramView}, Sections.{sections_of}}
use Rattle.sect_names.specs.Schemes.{SchemeView}
use Rattle.sect_conflicts.specs.steps.Taking.{AreFirstTaken}
use Rattle.sect_conflicts.proofs.TakenKeys.{taken_more, all_taken}
use Rattle.sect_conflicts.proofs.taken.taken_keys.Goals as goal

pub section_keys-requires-clause-within : goal.section_keys-requires-clause-within
section_keys-requires-clause-within c =
    let count = c.section_count-section-end.ensures.count ∙ ap (λ (p : ProgramView). length (sections_of p.texts))
    (c.program.ensures ∙ ap (λ (s : SchemeView). s.program) c.scheme.ensures) in
    omega (arith, c.loop-section-test.true, count)

pub loop-section-preserved : goal.loop-section-preserved
loop-section-preserved c =
    let p = c.args.compiled.now in
    let i = c.loop-section.section in
    subst (AreFirstTaken p (i + 1)) (sym c.in_ok-push.ensures.items)
    (taken_more p i c.loop-section.sections.items c.in_ok-section_keys.field-0 c.loop-section.invariant
    c.in_ok-section_keys.ensures)

pub returns : goal.returns
returns c =
    let count = c.section_count-section-end.ensures.count ∙ ap (λ (p : ProgramView). length (sections_of p.texts))
    (c.program.ensures ∙ ap (λ (s : SchemeView). s.program) c.scheme.ensures) in
    all_taken c.args.compiled.now c.loop-section.section c.loop-section.sections.items
    (omega (arith, count, c.loop-section-test.false, c.loop-section.auto.section-end)) c.loop-section.invariant
