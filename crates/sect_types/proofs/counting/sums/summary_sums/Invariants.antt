use Rattle.std.proofs.Common.{◌≡◌}
use Rattle.sect_types.proofs.Summing.{AreCounted}
use Rattle.sect_types.proofs.counting.sums.summary_sums.Given as goal

abbrev pub invariant-loop-met : goal.invariant-loop-met
invariant-loop-met l =
    (l.met-items ≡ l.summary.calls.items) × AreCounted l.table l.met-items l.summary.own l.met-index l.sums
