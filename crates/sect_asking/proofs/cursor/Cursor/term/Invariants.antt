use Rattle.std.proofs.Common.{◌≡◌, true, length}
use Rattle.sect_asking.specs.Phrases.{value_spots, is_term}
use Rattle.sect_asking.specs.steps.Reading.{Reads}
use Rattle.sect_asking.proofs.cursor.Cursor.term.Given as goal

abbrev pub invariant-loop-term : goal.invariant-loop-term
invariant-loop-term l = record {
  reads : Reads (value_spots l.term) l.fn.self.here l.self.here;
  grammar : is_term l.term ≡ true;
  left : l.left ≡ length l.self.here;
}

abbrev pub decreases-loop-term : goal.decreases-loop-term
decreases-loop-term l = length l.self.here
