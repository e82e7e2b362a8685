use Rattle.std.proofs.Common.{drop}
use Rattle.sect_types.specs.steps.Listing.{AreFieldsTyped}
use Rattle.sect_types.proofs.declarations.types.field_types.Given as goal

abbrev pub invariant-loop-of : goal.invariant-loop-of
invariant-loop-of l = AreFieldsTyped l.record_names l.records (drop l.of-index l.records) l.all.items
