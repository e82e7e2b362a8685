use Rattle.sect_endings.specs.{Graphs.{IsEnd}, steps.Sets.{AreMarks}}
use Rattle.sect_endings.proofs.sets.ends_of.Given as goal

abbrev pub invariant-loop-state : goal.invariant-loop-state
invariant-loop-state l = AreMarks l.state l.marks.items (IsEnd l.graph)
