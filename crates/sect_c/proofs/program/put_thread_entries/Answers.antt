use Rattle.std.proofs.Common.{◌++◌, arith}
use Rattle.std.specs.String.{string_bytes}
use Rattle.sect_lemmas.proofs.Places.{at_of}
use Rattle.sect_emit.specs.Listing.{by_number}
use Rattle.sect_emit.proofs.shared.Numbered.{added_on, all_added}
use Rattle.sect_c.specs.Programs.{thread_entry}
use Rattle.sect_c.proofs.program.put_thread_entries.Goals as goal

pub loop-thread-preserved : goal.loop-thread-preserved
loop-thread-preserved c =
    let texts = c.args.program.now.texts in
    let of = at_of texts c.loop-thread.thread
    (omega (arith, c.loop-thread-test.true, c.thread_count-thread-end.ensures.count)) in
    added_on thread_entry texts c.loop-thread.thread of.0 (string_bytes c.loop-thread.text)
    (string_bytes c.put_thread_entry.new.text) (string_bytes c.args.text.now ++ by_number thread_entry 0 texts) of.1
    (c.in_ok-put_thread_entry.ensures of.0) c.loop-thread.invariant

pub returns : goal.returns
returns c =
    let texts = c.args.program.now.texts in
    all_added thread_entry texts c.loop-thread.thread (string_bytes c.loop-thread.text)
    (string_bytes c.args.text.now ++ by_number thread_entry 0 texts)
    (omega (arith, c.loop-thread-test.false, c.loop-thread.auto.thread-end, c.thread_count-thread-end.ensures.count))
    c.loop-thread.invariant
