use Rattle.sect_conflicts.specs.steps.Progress.{AreConflictsBefore}
use Rattle.sect_conflicts.proofs.comparing.add_conflicts.Given as goal

abbrev pub invariant-loop-second : goal.invariant-loop-second
invariant-loop-second l = AreConflictsBefore l.compiled l.first l.second l.found.items
