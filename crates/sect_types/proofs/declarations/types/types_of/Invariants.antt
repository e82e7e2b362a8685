use Rattle.std.proofs.Common.{drop}
use Rattle.sect_types.specs.steps.Listing.{AreTyped}
use Rattle.sect_types.proofs.declarations.types.types_of.Given as goal

abbrev pub invariant-loop-declaration : goal.invariant-loop-declaration
invariant-loop-declaration l = AreTyped l.record_names l.list (drop l.declaration-index l.list) l.types
