use Rattle.std.proofs.Common.{drop}
use Rattle.sect_types.specs.steps.Listing.{AreLocals}
use Rattle.sect_types.specs.Rules.{declared_in}
use Rattle.sect_types.proofs.declarations.declare.locals.Given as goal

abbrev pub invariant-loop-local : goal.invariant-loop-local
invariant-loop-local l = AreLocals (declared_in l.tree) l.list (drop l.local-index l.list) l.names l.fn.spot l.spot
