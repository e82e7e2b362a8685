use Rattle.std.proofs.Common.{◌≢◌, [], length}
use Rattle.sect_asking.specs.Phrases.{numbers_spots}
use Rattle.sect_asking.specs.steps.Reading.{Reads}
use Rattle.sect_asking.proofs.cursor.Cursor.numbers.Given as goal

abbrev pub invariant-loop-self : goal.invariant-loop-self
invariant-loop-self l = record {
  reads : Reads (numbers_spots l.numbers.items) l.fn.self.here l.self.here;
  some : l.numbers.items ≢ [];
}

abbrev pub decreases-loop-self : goal.decreases-loop-self
decreases-loop-self l = length l.self.here
