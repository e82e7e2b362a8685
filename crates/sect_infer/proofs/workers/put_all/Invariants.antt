use Rattle.sect_infer.specs.steps.Sharing.{AreInPlace}
use Rattle.sect_infer.proofs.workers.put_all.Given as goal

abbrev pub invariant-loop-section : goal.invariant-loop-section
invariant-loop-section l = record {
  next : (goal.iterator-loop-section).can_next l.section-iterator;
  finite : (goal.iterator-loop-section).is_finite l.section-iterator;
  placed : AreInPlace l.scheme l.places.items;
}
