use Rattle.sect_points.specs.Sets.{sets_room}
use Rattle.sect_points.specs.steps.Marks.{IsSpan, IsGoing, IsLeft}
use Rattle.sect_points.proofs.solving.settle_locals.Given as goal

abbrev pub invariant-loop-grew : goal.invariant-loop-grew
invariant-loop-grew l = record {
  span : IsSpan l.fn.sets l.sets l.fn.marks l.marks l.grew;
  going : IsGoing l.readers l.sets l.moved l.marks;
  left : IsLeft l.sets l.moved l.marks (λ h. ⊥);
}

abbrev pub decreases-loop-grew : goal.decreases-loop-grew
decreases-loop-grew l = sets_room l.sets
