use Rattle.sect_endings.specs.{steps.Sets.{AreMarks, MovesInto}}
use Rattle.sect_endings.proofs.sets.moving.Given as goal

abbrev pub invariant-loop-state : goal.invariant-loop-state
invariant-loop-state l = AreMarks l.state l.marks.items (MovesInto l.graph l.within)
