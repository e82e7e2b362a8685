use Rattle.std.proofs.Common.{drop}
use Rattle.sect_types.specs.steps.Listing.{AreRecords}
use Rattle.sect_types.specs.Rules.{declared_in}
use Rattle.sect_types.proofs.declarations.declare.records.Given as goal

abbrev pub invariant-loop-of : goal.invariant-loop-of
invariant-loop-of l = AreRecords (declared_in l.tree) l.tree.records (drop l.of-index l.of-items) l.names
    l.field_names.items l.fn.spot l.spot
