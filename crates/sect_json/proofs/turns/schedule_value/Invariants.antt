-- The turns so far are those of a beginning of the schedule.
use Rattle.std.proofs.Common.{◌≡◌, ◌≤◌, take, length, vec_len, vec_capacity}
use Rattle.sect_json.proofs.Scheduled.{SoFar}
use Rattle.sect_json.proofs.turns.schedule_value.Given as goal

abbrev pub invariant-loop-thread : goal.invariant-loop-thread
invariant-loop-thread l = record {
  so : SoFar l.of.compiled.now l.of.source.now l.of.spans.now l.fuel (take l.thread-index l.schedule) l.world
      l.turns.items;
  count : vec_len l.turns ≡ l.thread-index;
  room : length l.schedule ≤ vec_capacity l.turns;
}
