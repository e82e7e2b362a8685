use Rattle.std.proofs.Common.{◌++◌, arith, length, ap, ◌∙◌}
use Rattle.std.specs.String.{string_bytes}
use Rattle.sect_lemmas.proofs.Places.{at_of}
use Rattle.sect_types.specs.Programs.{ProgramView}
use Rattle.sect_names.specs.Schemes.{SchemeView}
use Rattle.sect_c.specs.Sections.{thread_c}
use Rattle.sect_emit.specs.Listing.{by_number}
use Rattle.sect_emit.proofs.shared.Numbered.{added_on, all_added}
use Rattle.sect_c.proofs.program.put_threads.Goals as goal

pub loop-thread-preserved : goal.loop-thread-preserved
loop-thread-preserved c =
    let v = c.args.emitted.now.compiled.now in
    let count = c.thread_count-thread-end.ensures.count ∙ ap (λ (p : ProgramView). length p.texts)
    (c.program-program.ensures ∙ ap (λ (s : SchemeView). s.program) c.scheme.ensures) in
    let texts = v.scheme.program.texts in
    let line = thread_c v c.args.emitted.now.taken.now in
    let of = at_of texts c.loop-thread.thread (omega (arith, c.loop-thread-test.true, count)) in
    added_on line texts c.loop-thread.thread of.0 (string_bytes c.loop-thread.text) (string_bytes c.put_thread.new.text)
    (string_bytes c.args.text.now ++ by_number line 0 texts) of.1 (c.in_ok-put_thread.ensures of.0 of.1) c.loop-thread.invariant

pub returns : goal.returns
returns c =
    let v = c.args.emitted.now.compiled.now in
    let count = c.thread_count-thread-end.ensures.count ∙ ap (λ (p : ProgramView). length p.texts)
    (c.program-program.ensures ∙ ap (λ (s : SchemeView). s.program) c.scheme.ensures) in
    let texts = v.scheme.program.texts in
    let line = thread_c v c.args.emitted.now.taken.now in
    all_added line texts c.loop-thread.thread (string_bytes c.loop-thread.text)
    (string_bytes c.args.text.now ++ by_number line 0 texts)
    (omega (arith, c.loop-thread-test.false, c.loop-thread.auto.thread-end, count)) c.loop-thread.invariant
