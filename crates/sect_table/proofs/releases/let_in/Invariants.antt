use Rattle.std.proofs.Common.{◌≡◌, ◌+◌, length, vec_len, vec_capacity}
use Rattle.sect_table.specs.{Contents.{entry_of}, Sound.{waiting_count}}
use Rattle.sect_table.specs.steps.Letting.{LettingIn}
use Rattle.sect_table.proofs.releases.let_in.Given as goal

abbrev pub invariant-loop-waiter : goal.invariant-loop-waiter
invariant-loop-waiter l = record {
  letting : LettingIn l.fn.key l.at
      (vec_len l.initial.grants + waiting_count l.initial.arena.entries) l.initial.arena l.arena l.initial.grants.items
      l.grants.items;
  capacity : vec_capacity l.grants ≡ vec_capacity l.initial.grants;
}

abbrev pub decreases-loop-waiter : goal.decreases-loop-waiter
decreases-loop-waiter l = length (entry_of l.fn.key l.arena.entries).waiters
