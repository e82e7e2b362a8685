-- What the loop keeps.
use Rattle.std.proofs.Common.{◌≡◌, ◌≤◌, take, length, vec_len, vec_capacity}
use Rattle.sect_world.proofs.Scheduling.{SoFar}
use Rattle.sect_world.proofs.schedule.run_schedule.Given as goal

abbrev pub invariant-loop-thread : goal.invariant-loop-thread
invariant-loop-thread l =
    SoFar l.compiled l.fuel (take l.thread-index l.schedule) l.world l.made.items
    × (vec_len l.made ≡ l.thread-index) × (length l.schedule ≤ vec_capacity l.made)
