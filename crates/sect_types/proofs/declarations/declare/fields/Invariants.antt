use Rattle.std.proofs.Common.{drop}
use Rattle.sect_types.specs.steps.Listing.{IsListed}
use Rattle.sect_types.specs.Rules.{declared_in}
use Rattle.sect_types.proofs.declarations.declare.fields.Given as goal

abbrev pub invariant-loop-field : goal.invariant-loop-field
invariant-loop-field l = IsListed (declared_in l.tree) l.list (drop l.field-index l.list) l.names l.fn.spot l.spot
