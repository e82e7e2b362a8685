use Rattle.std.proofs.Common.{◌≡◌, length, vec_capacity}
use Rattle.sect_table.specs.Contents.{held_by}
use Rattle.sect_table.specs.steps.Letting.{Releasing}
use Rattle.sect_table.proofs.releases.release_all.Given as goal

abbrev pub invariant-loop-hold : goal.invariant-loop-hold
invariant-loop-hold l = record {
  releasing : Releasing l.thread (length l.initial.arena.held) l.initial.arena l.arena
      l.grants.items;
  capacity : vec_capacity l.grants ≡ vec_capacity l.initial.grants;
}

abbrev pub decreases-loop-hold : goal.decreases-loop-hold
decreases-loop-hold l = length (held_by l.arena l.thread)
