use Rattle.std.proofs.Common.{◌≡◌, map, length, Some}
use Rattle.sect_types.specs.Whole.{FrameView, all_ahead}
use Rattle.sect_serial.proofs.run.Run.finish.Given as goal

abbrev pub invariant-loop-frame : goal.invariant-loop-frame
invariant-loop-frame l = record {
  next : (goal.iterator-loop-frame).can_next l.frame-iterator;
  finite : (goal.iterator-loop-frame).is_finite l.frame-iterator;
  number : l.thread ≡ length l.yielded;
  ends : map Some l.ends.items ≡ map (λ (f : FrameView). f.ended) (all_ahead l.program 0 l.yielded);
  store : l.store ≡ l.fn.self.store;
}
