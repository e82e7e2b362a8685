use Rattle.std.proofs.Common.{arith, sym, subst}
use Rattle.sect_front.specs.FaultPlaces.{IsWithin}
use Rattle.sect_places.specs.Spans.{AreInOrder}
use Rattle.sect_places.proofs.shared.Ordered.{span_proper}
use Rattle.sect_lint.proofs.layout.item_span.Goals as goal

pub returns-clause-within : goal.returns-clause-within
returns-clause-within c = λ total order.
    let spans = c.as_slice-spans.result.now in
    let proper = span_proper total spans c.marked_range.result
    (subst (AreInOrder 0 total) (sym c.as_slice-spans.ensures.value) order) c.marked_range.ensures.some
    (omega (arith, c.marked_range.ensures.within)) in
    subst (IsWithin total) (sym c.range_span.ensures) (omega (arith, proper.0), proper.1)
