use Rattle.std.proofs.Common.{◌≤◌}
use Rattle.sect_bench.proofs.rounds.asked.Given as goal

abbrev pub invariant-loop-thread : goal.invariant-loop-thread
invariant-loop-thread l = record { few : l.granted ≤ l.thread }
