use Rattle.sect_places.specs.{Counts.{threads_count}, Ranges.{threads_ranges}}
use Rattle.sect_places.proofs.Seeking.{Sought}
use Rattle.sect_places.proofs.seek.seek_threads.Given as goal

abbrev pub invariant-loop-thread : goal.invariant-loop-thread
invariant-loop-thread l =
    Sought threads_count threads_ranges l.threads l.thread-index l.fn.ahead.at l.here.at l.fn.ahead.items l.here.items
