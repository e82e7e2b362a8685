use Rattle.std.proofs.Common.{sym, subst}
use Rattle.sect_types.specs.steps.Capped.{IsSmall}
use Rattle.sect_types.proofs.PlaceCounts.{said, small}
use Rattle.sect_types.proofs.rules.place.Standing.passes.Goals as goal

pub passes-requires-clause-small : goal.passes-requires-clause-small
passes-requires-clause-small c =
    subst IsSmall
    (sym (said c.self.inside.called.now c.self.inside.at c.in-InThread.field-0 c.in-InThread.depth c.args.number
    c.self.inside.table.now c.self.inside.returning.now c.in-InThread.is c.self.invariant)) (small _)
