use Rattle.std.proofs.Common.{◌++◌, length, ap, ◌∙◌, arith}
use Rattle.std.specs.String.{string_bytes}
use Rattle.sect_lemmas.proofs.Places.{at_of}
use Rattle.sect_types.specs.{Programs.{ProgramView}, Sections.{sections_of}}
use Rattle.sect_names.specs.Schemes.{SchemeView}
use Rattle.sect_emit.specs.Listing.{by_number, thread_listed, section_listed}
use Rattle.sect_emit.proofs.shared.Numbered.{added_on, all_added}
use Rattle.sect_emit.proofs.printing.listing.Goals as goal

pub loop-thread-preserved : goal.loop-thread-preserved
loop-thread-preserved c =
    let v = c.args.compiled.now in
    let texts = v.scheme.program.texts in
    let count = c.thread_count-thread-end.ensures.count ∙ ap (λ (p : ProgramView). length p.texts)
    (c.program-program.ensures ∙ ap (λ (s : SchemeView). s.program) c.scheme.ensures) in
    let of = at_of texts c.loop-thread.thread (omega (arith, c.loop-thread-test.true, count)) in
    added_on (thread_listed v) texts c.loop-thread.thread of.0 (string_bytes c.loop-thread.text)
    (string_bytes c.put_thread.new.text) (by_number (thread_listed v) 0 texts) of.1
    (c.in_ok-put_thread.ensures of.0 of.1) c.loop-thread.invariant

pub loop-section-init : goal.loop-section-init
loop-section-init c =
    let v = c.args.compiled.now in
    let texts = v.scheme.program.texts in
    let count = c.thread_count-thread-end.ensures.count ∙ ap (λ (p : ProgramView). length p.texts)
    (c.program-program.ensures ∙ ap (λ (s : SchemeView). s.program) c.scheme.ensures) in
    ap (λ w. w ++ by_number (section_listed v) 0 (sections_of texts))
    (all_added (thread_listed v) texts c.loop-thread.thread (string_bytes c.loop-thread.text)
    (by_number (thread_listed v) 0 texts)
    (omega (arith, c.loop-thread-test.false, c.loop-thread.auto.thread-end, count)) c.loop-thread.invariant)

pub loop-section-preserved : goal.loop-section-preserved
loop-section-preserved c =
    let v = c.args.compiled.now in
    let sections = sections_of v.scheme.program.texts in
    let count = c.section_count-section-end.ensures.count ∙ ap (λ (p : ProgramView). length (sections_of p.texts))
    (c.program-program.ensures ∙ ap (λ (s : SchemeView). s.program) c.scheme.ensures) in
    let of = at_of sections c.loop-section.section (omega (arith, c.loop-section-test.true, count)) in
    added_on (section_listed v) sections c.loop-section.section of.0 (string_bytes c.loop-section.text)
    (string_bytes c.put_section.new.text)
    (by_number (thread_listed v) 0 v.scheme.program.texts ++ by_number (section_listed v) 0 sections) of.1
    (c.in_ok-put_section.ensures of.0 of.1) c.loop-section.invariant
