use Rattle.std.proofs.Common.{◌≡◌, ◌<◌, ◌∙◌, length, arith, refl, sym, ap, true≢false}
use borrow.Author.Count.{below_more}
use Rattle.sect_types.specs.{Programs.{ProgramView}, Sections.{sections_of}}
use Rattle.sect_names.specs.Schemes.{SchemeView}
use Rattle.sect_conflicts.specs.steps.Taking.{IsKeyMetBy}
use Rattle.sect_conflicts.proofs.OtherSections.{other_within}
use Rattle.sect_conflicts.proofs.meeting.is_key_met.Goals as goal

pub loop-section-init : goal.loop-section-init
loop-section-init c = λ j none. absurd (omega (arith, none))

pub is_key_met_by-requires-clause-within : goal.is_key_met_by-requires-clause-within
is_key_met_by-requires-clause-within c =
    let count = c.section_count-section-end.ensures.count ∙ ap (λ (p : ProgramView). length (sections_of p.texts))
    (c.program.ensures ∙ ap (λ (s : SchemeView). s.program) c.scheme.ensures) in
    omega (arith, c.loop-section-test.true, count)

pub returns-then-is_key_met_by : goal.returns-then-is_key_met_by
returns-then-is_key_met_by c = (
  λ t. (let met = c.is_key_met_by.ensures.0 c.if-is_key_met_by.true in (c.loop-section.section, met.0, met.1)),
  λ m. refl,
)

pub loop-section-preserved : goal.loop-section-preserved
loop-section-preserved c =
    below_more (λ j. IsKeyMetBy c.args.others.now.compiled.now c.args.others.now.thread c.args.wish j → ⊥)
    c.loop-section.section c.loop-section.invariant
    (λ m. true≢false (sym (c.is_key_met_by.ensures.1 m) ∙ c.if-is_key_met_by.false))

pub returns : goal.returns
returns c =
    let count = c.section_count-section-end.ensures.count ∙ ap (λ (p : ProgramView). length (sections_of p.texts))
    (c.program.ensures ∙ ap (λ (s : SchemeView). s.program) c.scheme.ensures) in (
      λ t. absurd (true≢false (sym t)),
      λ (j, other, met). (let within = other_within c.args.others.now.compiled.now c.args.others.now.thread j other in
          absurd (c.loop-section.invariant j
          (omega (arith, within, c.loop-section-test.false, c.loop-section.auto.section-end, count)) (other, met))),
    )
