use Rattle.std.proofs.Common.{◌≡◌, drop, length, ◌-◌}
use Rattle.sect_warnings.specs.ClassLocks.{class_lock}
use Rattle.sect_warnings.proofs.Searching.{HasSome}
use Rattle.sect_warnings.proofs.class_mark.number_in.Given as goal

abbrev pub invariant-loop-wanted : goal.invariant-loop-wanted
invariant-loop-wanted l = HasSome (λ x. x ≡ class_lock l.wanted.class l.wanted.effect) (drop l.number l.set)

abbrev pub decreases-loop-wanted : goal.decreases-loop-wanted
decreases-loop-wanted l = length l.set - l.number
