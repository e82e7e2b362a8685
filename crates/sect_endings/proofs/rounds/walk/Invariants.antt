use Rattle.std.proofs.Common.{◌<◌, ℕ, Bool, List}
use Rattle.sect_endings.specs.steps.{Sets.{AreRanks, rank_of}, Walking.{Comes}}
use Rattle.sect_endings.proofs.rounds.walk.Given as goal

abbrev pub invariant-go : goal.invariant-go
invariant-go l =
    (within : List Bool) (n : ℕ) → AreRanks l.graph within l.goals l.ranks n
    → rank_of l.graph l.ranks l.fn.run.state < l.graph.states
    → Comes l.graph within l.fn.run.state l.fn.run.order.items l.run.state l.run.order.items
    × (rank_of l.graph l.ranks l.run.state < l.graph.states)

abbrev pub decreases-go : goal.decreases-go
decreases-go l = rank_of l.graph l.ranks l.run.state
