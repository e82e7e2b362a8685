use Rattle.sect_flows.proofs.Finding.{NoneBefore}
use Rattle.sect_flows.proofs.way.section_node.Given as goal

abbrev pub invariant-loop-number : goal.invariant-loop-number
invariant-loop-number l = NoneBefore l.section l.flow l.number
