use Rattle.std.proofs.Common.{◌≡◌, ◌++◌, ◌-◌, None}
use Rattle.std.specs.Prelude.{replicate}
use Rattle.sect_draw.proofs.faults.none_ran.Given as goal

abbrev pub invariant-loop-thread : goal.invariant-loop-thread
invariant-loop-thread l = l.ran.items ++ replicate (l.threads - l._thread) None ≡ replicate l.threads None
