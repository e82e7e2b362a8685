use Rattle.std.proofs.Common.{◌≡◌, ◌++◌, drop}
use Rattle.std.specs.String.{string_bytes}
use Rattle.sect_emit.specs.Listing.{by_number}
use Rattle.sect_c.specs.Sections.{thread_c}
use Rattle.sect_c.proofs.program.put_threads.Given as goal

abbrev pub invariant-loop-thread : goal.invariant-loop-thread
invariant-loop-thread l = (let line = thread_c l.emitted.compiled.now l.emitted.taken.now in string_bytes l.text
    ++ by_number line l.thread (drop l.thread l.emitted.compiled.now.scheme.program.texts) ≡ string_bytes l.fn.text ++ by_number line 0 l.emitted.compiled.now.scheme.program.texts)
