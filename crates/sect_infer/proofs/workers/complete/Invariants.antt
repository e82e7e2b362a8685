use Rattle.std.proofs.Common.{◌≡◌, length}
use Rattle.sect_infer.specs.Sets.{AreInferredBelow}
use Rattle.sect_infer.proofs.workers.complete.Given as goal

abbrev pub invariant-loop-place : goal.invariant-loop-place
invariant-loop-place g l = record {
  next : (goal.iterator-loop-place g).can_next l.place-iterator;
  finite : (goal.iterator-loop-place g).is_finite l.place-iterator;
  number : l.section ≡ length l.yielded;
  inferred : AreInferredBelow l.scheme l.section l.all.items;
}
