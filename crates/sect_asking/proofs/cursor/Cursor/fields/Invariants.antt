use Rattle.std.proofs.Common.{length}
use Rattle.sect_asking.specs.Phrases.{fields_spots}
use Rattle.sect_asking.specs.steps.Reading.{Goes}
use Rattle.sect_asking.proofs.cursor.Cursor.fields.Given as goal

abbrev pub invariant-loop-fields : goal.invariant-loop-fields
invariant-loop-fields l = record {
  reads : Goes (fields_spots l.fields.items) l.fn.self.here l.self.here;
}

abbrev pub decreases-loop-fields : goal.decreases-loop-fields
decreases-loop-fields l = length l.self.here
