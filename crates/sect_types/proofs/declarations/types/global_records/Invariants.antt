use Rattle.std.proofs.Common.{drop}
use Rattle.sect_types.specs.steps.Listing.{AreGlobalsNumbered}
use Rattle.sect_types.proofs.declarations.types.global_records.Given as goal

abbrev pub invariant-loop-global : goal.invariant-loop-global
invariant-loop-global l = AreGlobalsNumbered l.record_names l.globals (drop l.global-index l.globals) l.all.items
