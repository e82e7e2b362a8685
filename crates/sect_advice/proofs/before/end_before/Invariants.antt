use Rattle.std.proofs.Common.{◌≡◌, ◌≤◌}
use Rattle.sect_advice.specs.Advising.{end_before}
use Rattle.sect_advice.proofs.before.end_before.Given as goal

abbrev pub invariant-loop-end : goal.invariant-loop-end
invariant-loop-end l = (end_before l.source l.end ≡ end_before l.source l.at) × (l.end ≤ l.at)

abbrev pub decreases-loop-end : goal.decreases-loop-end
decreases-loop-end l = l.end
