use Rattle.sect_types.proofs.Marking.{IsSearched}
use Rattle.sect_types.proofs.rules.called.Called.returning.Given as goal

abbrev pub invariant-loop-next : goal.invariant-loop-next
invariant-loop-next l = IsSearched l.self l.number l.next l.marked.items l.found.items
