-- What the loop keeps.
use Rattle.std.proofs.Common.{◌≡◌, ◌+◌, ◌-◌, ◌≤◌, ◌++◌, drop, length, vec_len, vec_capacity}
use Rattle.sect_world.specs.steps.{Fits.{takes}, Taking.{CanAdvance, all_advanced, takers}}
use Rattle.sect_world.proofs.giving.take_grants.Given as goal

abbrev pub invariant-loop-grant : goal.invariant-loop-grant
invariant-loop-grant l =
    CanAdvance (drop l.grant-index l.grants) l.runners.items
    × (all_advanced (drop l.grant-index l.grants) l.runners.items ≡ all_advanced l.grants l.fn.runners.items)
    × (l.trace.items ++ takes (drop l.grant-index l.grants) ≡ l.fn.trace.items ++ takes l.grants)
    × (l.granted.items ++ takers (drop l.grant-index l.grants) ≡ l.fn.granted.items ++ takers l.grants)
    × (length l.grants - l.grant-index ≤ l.trace.room)
    × (vec_len l.granted + (length l.grants - l.grant-index) ≤ vec_capacity l.granted)
    × (vec_capacity l.granted ≡ vec_capacity l.fn.granted)
