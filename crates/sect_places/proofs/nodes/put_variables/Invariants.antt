use Rattle.std.proofs.Common.{length}
use Rattle.sect_places.specs.Origins.{variable_origins}
use Rattle.sect_places.proofs.Walked.{Walked}
use Rattle.sect_places.proofs.nodes.put_variables.Given as goal

abbrev pub invariant-loop-variable : goal.invariant-loop-variable
invariant-loop-variable l =
    Walked length (variable_origins l.call) l.list l._variable-index l.item l.next l.fn.nodes.items l.nodes.items
