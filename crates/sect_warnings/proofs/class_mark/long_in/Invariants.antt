use Rattle.std.proofs.Common.{drop, length, ◌-◌}
use Rattle.sect_warnings.specs.steps.Reasons.{IsLong}
use Rattle.sect_warnings.proofs.Searching.{HasSome}
use Rattle.sect_warnings.proofs.class_mark.long_in.Given as goal

abbrev pub invariant-loop-number : goal.invariant-loop-number
invariant-loop-number l = HasSome (IsLong l.scheme l.class) (drop l.number l.paths)

abbrev pub decreases-loop-number : goal.decreases-loop-number
decreases-loop-number l = length l.paths - l.number
