use Rattle.sect_types.specs.Sums.{names_of_procedures}
use Rattle.sect_types.proofs.shared.Naming.{NoneBefore}
use Rattle.sect_places.proofs.nodes.number_of.Given as goal

abbrev pub invariant-loop-number : goal.invariant-loop-number
invariant-loop-number l = NoneBefore l.name (names_of_procedures l.procedures) l.number
