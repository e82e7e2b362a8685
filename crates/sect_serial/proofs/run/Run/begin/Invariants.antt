use Rattle.std.proofs.Common.{◌≡◌, ◌++◌, drop, length}
use Rattle.sect_types.specs.Whole.{first_frames}
use Rattle.sect_serial.specs.steps.Frames.{AreReady}
use Rattle.sect_serial.proofs.run.Run.begin.Given as goal

abbrev pub invariant-loop-thread : goal.invariant-loop-thread
invariant-loop-thread l = record {
  long : length l.frames.items ≡ l.thread;
  made : l.frames.items ++ first_frames l.fuel (drop l.thread l.program.texts) (drop l.thread l.program.locals)
      ≡ first_frames l.fuel l.program.texts l.program.locals;
  ready : AreReady l.program 0 l.frames.items;
}
