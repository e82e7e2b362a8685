use Rattle.sect_endings.specs.steps.Sets.{AreKept}
use Rattle.sect_endings.proofs.sets.keep_ranked.Given as goal

abbrev pub invariant-loop-state : goal.invariant-loop-state
invariant-loop-state l = AreKept l.graph l.ranks l.fn.marks l.marks l.state l.changed
