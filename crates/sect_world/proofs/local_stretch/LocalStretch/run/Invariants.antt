use Rattle.std.proofs.Common.{◌≡◌}
use Rattle.sect_world.specs.Locals.{IsLocalStretch}
use Rattle.sect_world.proofs.local_stretch.LocalStretch.run.Given as goal

abbrev pub invariant-loop-made : goal.invariant-loop-made
invariant-loop-made l = IsLocalStretch l.compiled l.self × (l.self.thread ≡ l.fn.self.thread)
