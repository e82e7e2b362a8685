use Rattle.std.proofs.Common.{sym, subst}
use Rattle.sect_front.specs.FaultPlaces.{IsFaultSpan}
use Rattle.sect_places.proofs.OneFault.{fault_stands, no_tree}
use Rattle.sect_places.proofs.faults.fault_span.Goals as goal

pub unreachable-requires : goal.unreachable-requires
unreachable-requires c =
    no_tree c.args.source.now c.args.fault.now c.in-Ok.field-0 c.requires.known c.requires.fault c.in-Ok.ensures.tree

pub returns-clause-span : goal.returns-clause-span
returns-clause-span c =
    subst (λ span. IsFaultSpan c.args.source.now c.args.fault.now span) (sym c.in_ok-span-in-Err.ensures.span)
    (fault_stands c.args.source.now c.args.fault.now c.in-Err.placed.fault c.in-Err.placed.span c.requires.known
    c.in_ok-span-in-Err.ensures.known c.requires.fault c.in-Err.ensures.fault c.in-Err.ensures.span)
