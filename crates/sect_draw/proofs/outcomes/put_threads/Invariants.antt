use Rattle.std.proofs.Common.{◌≡◌, ◌++◌, drop}
use Rattle.std.specs.String.{string_bytes}
use Rattle.sect_store.specs.Printing.{by_place}
use Rattle.sect_draw.specs.{Places.{thread_line}, Placing.{places_shown}}
use Rattle.sect_draw.proofs.outcomes.put_threads.Given as goal

abbrev pub invariant-loop-thread : goal.invariant-loop-thread
invariant-loop-thread l = record {
  added : string_bytes l.text ++ by_place (thread_line (places_shown l.faults.places) l.faults.ran.now) l.thread
      (drop l.thread l.ends)
      ≡ string_bytes l.fn.text ++ by_place (thread_line (places_shown l.faults.places) l.faults.ran.now) 0 l.ends;
}
