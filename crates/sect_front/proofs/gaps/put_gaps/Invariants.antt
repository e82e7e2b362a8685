use Rattle.std.proofs.Common.{length}
use Rattle.sect_front.specs.LongGaps.{IsRestOf, AreGaps}
use Rattle.sect_front.proofs.gaps.put_gaps.Given as goal

abbrev pub invariant-more : goal.invariant-more
invariant-more l = record { rest : IsRestOf l.bytes l.here; gaps : AreGaps l.bytes l.gaps.items }

abbrev pub decreases-more : goal.decreases-more
decreases-more l = length l.here
