use Rattle.sect_infer.specs.steps.Sharing.{AreInPlace}
use Rattle.sect_infer.proofs.workers.join_all.Given as goal

abbrev pub invariant-loop-handle : goal.invariant-loop-handle
invariant-loop-handle g l = record {
  next : (goal.iterator-loop-handle g).can_next l.handle-iterator;
  finite : (goal.iterator-loop-handle g).is_finite l.handle-iterator;
  placed : AreInPlace l.scheme l.places.items;
}
