use Rattle.sect_infer.specs.steps.Sharing.{AreOf}
use Rattle.sect_infer.proofs.workers.fn.infer_all.scope.Given as goal

abbrev pub invariant-loop-worker : goal.invariant-loop-worker
invariant-loop-worker g l = AreOf l.scheme.now l.started.items
