use Rattle.std.proofs.Common.{◌≡◌, ◌<◌, length}
use Rattle.sect_types.specs.Whole.{run_section}
use Rattle.sect_emit.specs.Compiled.{program_of}
use Rattle.sect_world.specs.Runs.{order_of}
use Rattle.sect_draw.specs.{Placing.{AreThere}, steps.Turning.{GoesOn, kept_shown}}
use Rattle.sect_draw.specs.steps.Resting.{run_of, left_by, gone_through}
use Rattle.sect_draw.proofs.{Lone.{turns_left}, OnItsWay.{IsOnWay}}
use Rattle.sect_draw.proofs.noting.run_on.Given as goal

abbrev pub invariant-turns : goal.invariant-turns
invariant-turns l = record {
  gone : GoesOn l.fn.world (kept_shown l.fn.kept) l.world (kept_shown l.kept);
  there : AreThere l.world.compiled l.kept.ran.items;
  order : order_of l.world.trace ≡ order_of l.fn.world.trace;
  way : l.thread < length l.world.state.threads → IsOnWay l.fn.world.compiled l.thread
      (gone_through (program_of l.fn.world.compiled) l.thread (run_of l.fn.world.state))
      (left_by l.thread (run_section (program_of l.fn.world.compiled) l.thread (run_of l.fn.world.state)))
      l.world.state;
}

abbrev pub decreases-turns : goal.decreases-turns
decreases-turns l = turns_left l.fn.world.compiled l.thread l.world.state
