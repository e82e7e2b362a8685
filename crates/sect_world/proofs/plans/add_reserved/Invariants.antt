-- What the loop keeps.
use Rattle.std.proofs.Common.{◌≡◌, ◌+◌, ◌-◌, ◌≤◌, ◌++◌, drop, length, vec_len, vec_capacity}
use Rattle.sect_world.proofs.plans.add_reserved.Given as goal

abbrev pub invariant-loop-grip : goal.invariant-loop-grip
invariant-loop-grip l =
    (l.plan.items ++ drop l.grip-index l.grips ≡ l.fn.plan.items ++ l.grips)
    × (vec_len l.plan + (length l.grips - l.grip-index) ≤ vec_capacity l.plan)
    × (vec_capacity l.plan ≡ vec_capacity l.fn.plan)
