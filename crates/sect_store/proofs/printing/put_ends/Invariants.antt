use Rattle.std.proofs.Common.{◌≡◌, ◌++◌, drop}
use Rattle.std.specs.String.{string_bytes}
use Rattle.sect_store.specs.Printing.{by_place, thread_line}
use Rattle.sect_store.proofs.printing.put_ends.Given as goal

abbrev pub invariant-loop-thread : goal.invariant-loop-thread
invariant-loop-thread l = record {
  added : string_bytes l.text ++ by_place thread_line l.thread-counter (drop l.thread-counter l.ends) ≡ string_bytes
      l.fn.text ++ by_place thread_line 0 l.ends;
}
