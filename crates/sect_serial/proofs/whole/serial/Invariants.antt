use Rattle.std.proofs.Common.{◌≡◌, take, length, Some}
use Rattle.sect_types.specs.Whole.{begun, in_order}
use Rattle.sect_serial.specs.steps.Frames.{AreReady}
use Rattle.sect_serial.proofs.whole.serial.Given as goal

abbrev pub invariant-loop-thread : goal.invariant-loop-thread
invariant-loop-thread l = record {
  ran : in_order l.program (take l.thread-index l.order) (begun l.program l.fuel) ≡ Some l.run;
  ready : AreReady l.program 0 l.run.frames;
  many : length l.run.frames ≡ length l.program.texts;
}
