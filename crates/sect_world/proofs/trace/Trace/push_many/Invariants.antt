use Rattle.std.proofs.Common.{◌≡◌, ◌++◌, ◌-◌, ◌≤◌}
use Rattle.std.specs.Prelude.{replicate}
use Rattle.sect_world.proofs.trace.Trace.push_many.Given as goal

abbrev pub invariant-loop-made : goal.invariant-loop-made
invariant-loop-made l =
    (l.self.items ≡ l.fn.self.items ++ replicate l._made l.event) × (l.count - l._made ≤ l.self.room)
