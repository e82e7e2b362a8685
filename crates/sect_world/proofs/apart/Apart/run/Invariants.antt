use Rattle.std.proofs.Common.{◌≡◌}
use Rattle.sect_world.specs.Acting.{IsApart}
use Rattle.sect_world.proofs.apart.Apart.run.Given as goal

abbrev pub invariant-loop-made : goal.invariant-loop-made
invariant-loop-made l = IsApart l.compiled l.self × (l.self.thread ≡ l.fn.self.thread)
