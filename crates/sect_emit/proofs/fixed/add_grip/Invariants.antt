use Rattle.std.proofs.Common.{◌≡◌, ◌++◌, take, drop}
use Rattle.sect_emit.specs.Plan.{with_grip}
use Rattle.sect_emit.proofs.fixed.add_grip.Given as goal

abbrev pub invariant-loop-place : goal.invariant-loop-place
invariant-loop-place l =
    (l.grips ≡ l.initial.grips)
    × (with_grip l.wish l.grips.items ≡ take l.place l.grips.items ++ with_grip l.wish (drop l.place l.grips.items))
