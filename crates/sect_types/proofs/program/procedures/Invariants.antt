use Rattle.std.proofs.Common.{drop}
use Rattle.sect_types.specs.Rules.{declared_in}
use Rattle.sect_types.specs.steps.Threads.{AreProcedures}
use Rattle.sect_types.proofs.program.procedures.Given as goal

abbrev pub invariant-loop-procedure : goal.invariant-loop-procedure
invariant-loop-procedure l =
    AreProcedures (declared_in l.context.tree.now) l.context.tree.now.procedures
    (drop l.procedure-index l.procedure-items)
    l.names l.all.items
    l.fn.spot l.spot
