use Rattle.std.proofs.Common.{take}
use Rattle.sect_draw.specs.{Placing.{AreThere}, steps.Turning.{kept_shown}}
use Rattle.sect_draw.proofs.Charted.{Led}
use Rattle.sect_draw.proofs.noting.ran_in_turns.Given as goal

abbrev pub invariant-loop-thread : goal.invariant-loop-thread
invariant-loop-thread l = record {
  led : Led l.compiled l.fuel (take l.thread-index l.schedule) l.world (kept_shown l.kept);
  there : AreThere l.world.compiled l.kept.ran.items;
}
