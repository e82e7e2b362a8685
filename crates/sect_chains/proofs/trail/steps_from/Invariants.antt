use Rattle.std.proofs.Common.{◌≡◌, ◌<◌, ◌++◌, length}
use Rattle.sect_chains.specs.steps.Following.{chain_from}
use Rattle.sect_chains.proofs.trail.steps_from.Given as goal

abbrev pub invariant-loop-at : goal.invariant-loop-at
invariant-loop-at l = record {
  there : l.at < length l.steps;
  so_far : l.chain.items ++ chain_from l.steps l.at ≡ chain_from l.steps l.start;
}

abbrev pub decreases-loop-at : goal.decreases-loop-at
decreases-loop-at l = l.at
