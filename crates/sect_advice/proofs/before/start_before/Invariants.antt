use Rattle.std.proofs.Common.{◌≡◌, ◌≤◌}
use Rattle.sect_advice.specs.Advising.{start_before}
use Rattle.sect_advice.proofs.before.start_before.Given as goal

abbrev pub invariant-loop-start : goal.invariant-loop-start
invariant-loop-start l = (start_before l.source l.start ≡ start_before l.source l.at) × (l.start ≤ l.at)

abbrev pub decreases-loop-start : goal.decreases-loop-start
decreases-loop-start l = l.start
