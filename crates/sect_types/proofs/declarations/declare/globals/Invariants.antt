use Rattle.std.proofs.Common.{drop}
use Rattle.sect_types.specs.steps.Listing.{AreGlobals}
use Rattle.sect_types.specs.Rules.{declared_in}
use Rattle.sect_types.proofs.declarations.declare.globals.Given as goal

abbrev pub invariant-loop-global : goal.invariant-loop-global
invariant-loop-global l = AreGlobals (declared_in l.tree) l.tree.globals (drop l.global-index l.global-items) l.names
    l.fn.spot l.spot
