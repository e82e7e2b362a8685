use Rattle.std.proofs.Common.{take}
use Rattle.sect_types.proofs.Reversing.{AreReversed}
use Rattle.sect_types.proofs.rules.called.put_callers.Given as goal

abbrev pub invariant-loop-callee : goal.invariant-loop-callee
invariant-loop-callee l =
    AreReversed l.number l.procedures l.callers.items (take l.callee-index l.callee-items)
