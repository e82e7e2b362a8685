use Rattle.std.proofs.Common.{◌≡◌, ◌+◌, length}
use Rattle.sect_places.specs.steps.Feeding.{feeds_in}
use Rattle.sect_places.proofs.position.feeds_of.Given as goal

abbrev pub invariant-loop-rest : goal.invariant-loop-rest
invariant-loop-rest l = l.feeds + feeds_in l.rest ≡ feeds_in l.bytes

abbrev pub decreases-loop-rest : goal.decreases-loop-rest
decreases-loop-rest l = length l.rest
