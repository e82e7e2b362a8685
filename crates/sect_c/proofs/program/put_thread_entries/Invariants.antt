use Rattle.std.proofs.Common.{◌≡◌, ◌++◌, drop}
use Rattle.std.specs.String.{string_bytes}
use Rattle.sect_emit.specs.Listing.{by_number}
use Rattle.sect_c.specs.Programs.{thread_entry}
use Rattle.sect_c.proofs.program.put_thread_entries.Given as goal

abbrev pub invariant-loop-thread : goal.invariant-loop-thread
invariant-loop-thread l = (let line = thread_entry in string_bytes l.text
    ++ by_number line l.thread (drop l.thread l.program.texts) ≡ string_bytes l.fn.text ++ by_number line 0 l.program.texts)
