use Rattle.std.proofs.Common.{◌≡◌, true, length}
use Rattle.sect_asking.specs.Phrases.{value_spots, is_sum}
use Rattle.sect_asking.specs.steps.Reading.{Reads}
use Rattle.sect_asking.proofs.cursor.Cursor.sum.Given as goal

abbrev pub invariant-loop-sum : goal.invariant-loop-sum
invariant-loop-sum l = record {
  reads : Reads (value_spots l.sum) l.fn.self.here l.self.here;
  grammar : is_sum l.sum ≡ true;
  left : l.left ≡ length l.self.here;
}

abbrev pub decreases-loop-sum : goal.decreases-loop-sum
decreases-loop-sum l = length l.self.here
