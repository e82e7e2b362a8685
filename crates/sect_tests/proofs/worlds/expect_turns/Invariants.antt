use Rattle.std.specs.Prelude.{◌≡◌}
use Rattle.sect_tests.proofs.worlds.expect_turns.Given as goal

abbrev pub invariant-loop-thread : goal.invariant-loop-thread
invariant-loop-thread g l = l.world.compiled ≡ l.initial.world.compiled
