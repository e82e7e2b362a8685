use Rattle.std.proofs.Common.{◌≡◌, true, length}
use Rattle.sect_asking.specs.Phrases.{threads_spots, has_some}
use Rattle.sect_asking.specs.steps.Reading.{Reads}
use Rattle.sect_asking.proofs.cursor.Cursor.threads.Given as goal

abbrev pub invariant-loop-thread : goal.invariant-loop-thread
invariant-loop-thread l = record {
  reads : Reads (threads_spots l.threads.items) l.fn.self.here l.self.here;
  some : has_some l.threads.items ≡ true;
}

abbrev pub decreases-loop-thread : goal.decreases-loop-thread
decreases-loop-thread l = length l.self.here
