use Rattle.std.proofs.Common.{◌≡◌, ◌+◌, ◌*◌, true, length}
use Rattle.sect_asking.specs.Phrases.{condition_spots, is_part}
use Rattle.sect_asking.specs.steps.Reading.{Reads}
use Rattle.sect_asking.specs.declared.printing.Part.TheVariants as part
use Rattle.sect_asking.proofs.cursor.Cursor.+condition.Given as goal

abbrev pub decreases-condition : goal.decreases-condition
decreases-condition l = 3 * length l.self.now.here + 2

abbrev pub decreases-both : goal.decreases-both
decreases-both l = 3 * length l.self.now.here + 1

abbrev pub decreases-one : goal.decreases-one
decreases-one l = 3 * length l.self.now.here

abbrev pub invariant-condition-more : goal.invariant-condition-more
invariant-condition-more l = record {
  reads : Reads (condition_spots l.condition) l.fn.self.here l.self.here;
  grammar : is_part part.Whole l.condition ≡ true;
}

abbrev pub decreases-condition-more : goal.decreases-condition-more
decreases-condition-more l = length l.self.here

abbrev pub invariant-both-more : goal.invariant-both-more
invariant-both-more l = record {
  reads : Reads (condition_spots l.condition) l.fn.self.here l.self.here;
  grammar : is_part part.OfEither l.condition ≡ true;
}

abbrev pub decreases-both-more : goal.decreases-both-more
decreases-both-more l = length l.self.here
