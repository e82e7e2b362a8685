use Rattle.std.proofs.Common.{◌≡◌, ◌-◌, ◌+◌, false}
use Rattle.std.specs.Prelude.{if◌then◌else◌}
use Rattle.sect_endings.specs.steps.Sets.{AreRanks, AreAllRanks}
use Rattle.sect_endings.proofs.ranks.ranking.Given as goal

abbrev pub invariant-more : goal.invariant-more
invariant-more l = record {
  ranks : AreRanks l.graph l.within l.goals l.ranks.items l.ranked;
  all : l.more ≡ false → AreAllRanks l.graph l.within l.goals l.ranks.items;
}

abbrev pub decreases-more : goal.decreases-more
decreases-more l = (l.graph.states - l.ranked) + (if l.more then 1 else 0)
