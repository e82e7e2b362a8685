use Rattle.sect_infer.specs.steps.Fronts.{AreEmpty}
use Rattle.sect_infer.proofs.lists.empty_fronts.Given as goal

abbrev pub invariant-loop : goal.invariant-loop
invariant-loop l = AreEmpty l.counter l.fronts.items
