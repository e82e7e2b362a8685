use Rattle.std.proofs.Common.{◌≡◌, map, take}
use Rattle.sect_places.specs.Positions.{position}
use Rattle.sect_places.specs.steps.Passing.{IsAt}
use Rattle.sect_places.proofs.positions.positions_of.Given as goal

abbrev pub invariant-loop-at : goal.invariant-loop-at
invariant-loop-at l =
    IsAt l.source l.cursor × (l.positions.items ≡ map (position l.source) (take l.at-index l.places))
