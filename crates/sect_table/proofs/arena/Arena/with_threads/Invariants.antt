use Rattle.std.proofs.Common.{◌≡◌, ◌+◌, length}
use Rattle.sect_table.specs.steps.Links.{ArePlaced}
use Rattle.sect_table.proofs.Growing.{AreEmpty}
use Rattle.sect_table.proofs.arena.Arena.with_threads.Given as goal

abbrev pub invariant-loop-step : goal.invariant-loop-step
invariant-loop-step l = record {
  size : l.chains.size ≡ 0;
  count : length l.chains.lists ≡ l.step + l.step + 1;
  empty :
      AreEmpty l.chains.lists;
  placed : ArePlaced l.chains;
}
