use Rattle.std.proofs.Common.{◌≤◌}
use Rattle.sect_endings.specs.{steps.Sets.{AreMarks, rank_of}}
use Rattle.sect_endings.proofs.sets.unranked.Given as goal

abbrev pub invariant-loop-state : goal.invariant-loop-state
invariant-loop-state l = AreMarks l.state l.marks.items (λ s. l.graph.states ≤ rank_of l.graph l.ranks s)
