use Rattle.sect_types.proofs.Marking.{AreCallersMarked}
use Rattle.sect_types.proofs.rules.called.Called.mark_callers.Given as goal

abbrev pub invariant-loop-caller : goal.invariant-loop-caller
invariant-loop-caller l =
    AreCallersMarked l.self l.number l.caller-items l.fn.marked.items l.fn.found.items l.caller-index l.marked.items
    l.found.items
