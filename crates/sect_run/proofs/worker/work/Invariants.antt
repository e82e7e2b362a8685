use Rattle.std.specs.Prelude.{IfSome}
use Rattle.sect_world.specs.Stretches.{IsStretchOf}
use Rattle.sect_run.proofs.worker.work.Given as goal

abbrev pub invariant-loop : goal.invariant-loop
invariant-loop g l = IfSome l.post.stretch (IsStretchOf l.compiled l.post.thread)
