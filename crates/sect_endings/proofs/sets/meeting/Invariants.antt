use Rattle.sect_endings.specs.{steps.Sets.{AreMarks, IsMet}}
use Rattle.sect_endings.proofs.sets.meeting.Given as goal

abbrev pub invariant-loop-state : goal.invariant-loop-state
invariant-loop-state l = AreMarks l.state l.marks.items (IsMet l.graph l.within l.thread)
