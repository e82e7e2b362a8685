use Rattle.sect_infer.proofs.Sharing.{AreEmpty}
use Rattle.sect_infer.proofs.workers.no_locks.Given as goal

abbrev pub invariant-loop : goal.invariant-loop
invariant-loop l = AreEmpty l.counter l.places.items
