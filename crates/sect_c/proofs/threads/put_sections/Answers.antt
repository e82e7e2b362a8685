use Rattle.std.proofs.Common.{◌++◌, arith, length, ap, ◌∙◌}
use Rattle.std.specs.String.{string_bytes}
use Rattle.sect_lemmas.proofs.Places.{at_of}
use Rattle.sect_types.specs.{Programs.{ProgramView}, Sections.{sections_of}}
use Rattle.sect_names.specs.Schemes.{SchemeView}
use Rattle.sect_c.specs.Sections.{own_section_c}
use Rattle.sect_emit.specs.Listing.{by_number}
use Rattle.sect_emit.proofs.shared.Numbered.{added_on, all_added}
use Rattle.sect_c.proofs.threads.put_sections.Goals as goal

pub loop-section-preserved : goal.loop-section-preserved
loop-section-preserved c =
    let v = c.args.emitted.now.compiled.now in
    let count = c.section_count-section-end.ensures.count ∙ ap (λ (p : ProgramView). length (sections_of p.texts))
    (c.program-program.ensures ∙ ap (λ (s : SchemeView). s.program) c.scheme.ensures) in
    let sections = sections_of v.scheme.program.texts in
    let line = own_section_c v c.args.emitted.now.taken.now c.args.thread in
    let of = at_of sections c.loop-section.section (omega (arith, c.loop-section-test.true, count)) in
    added_on line sections c.loop-section.section of.0 (string_bytes c.loop-section.text) (string_bytes c.put_own_section.new.text)
    (string_bytes c.args.text.now ++ by_number line 0 sections) of.1 (c.in_ok-put_own_section.ensures of.0 of.1) c.loop-section.invariant

pub returns : goal.returns
returns c =
    let v = c.args.emitted.now.compiled.now in
    let count = c.section_count-section-end.ensures.count ∙ ap (λ (p : ProgramView). length (sections_of p.texts))
    (c.program-program.ensures ∙ ap (λ (s : SchemeView). s.program) c.scheme.ensures) in
    let sections = sections_of v.scheme.program.texts in
    let line = own_section_c v c.args.emitted.now.taken.now c.args.thread in
    all_added line sections c.loop-section.section (string_bytes c.loop-section.text)
    (string_bytes c.args.text.now ++ by_number line 0 sections)
    (omega (arith, c.loop-section-test.false, c.loop-section.auto.section-end, count)) c.loop-section.invariant
