use Rattle.std.proofs.Common.{take}
use Rattle.sect_types.specs.steps.Listing.{Knows}
use Rattle.sect_types.proofs.declarations.declare.known_records.Given as goal

abbrev pub invariant-loop-of : goal.invariant-loop-of
invariant-loop-of l = Knows l.known (take l.of-index l.of-items)
