use Rattle.sect_endings.specs.steps.Walking.{PassesAll}
use Rattle.sect_endings.proofs.rounds.circle.Given as goal

abbrev pub invariant-loop-thread : goal.invariant-loop-thread
invariant-loop-thread l =
    PassesAll l.graph l.within l.thread l.fn.run.state l.fn.run.order.items l.run.state l.run.order.items
