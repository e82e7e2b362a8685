use Rattle.sect_conflicts.specs.steps.Progress.{AreConflictsBefore}
use Rattle.sect_conflicts.proofs.comparing.conflicts.Given as goal

abbrev pub invariant-loop-first : goal.invariant-loop-first
invariant-loop-first l = AreConflictsBefore l.compiled l.first 0 l.found.items
