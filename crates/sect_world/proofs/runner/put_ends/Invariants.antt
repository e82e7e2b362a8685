-- What the loop keeps.
use Rattle.std.proofs.Common.{◌≡◌, ◌+◌, ◌-◌, ◌≤◌, ◌++◌, drop, map, length, vec_len, vec_capacity}
use Rattle.sect_world.specs.declared.runner.Runner.{Runner}
use Rattle.sect_world.proofs.runner.put_ends.Given as goal

abbrev pub invariant-loop-runner : goal.invariant-loop-runner
invariant-loop-runner l =
    (l.ends.items ++ map (λ (r : Runner). r.ended) (drop l.runner-index l.runners) ≡ l.fn.ends.items
    ++ map (λ (r : Runner). r.ended) l.runners)
    × (vec_len l.ends + (length l.runners - l.runner-index) ≤ vec_capacity l.ends)
