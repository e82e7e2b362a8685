use Rattle.sect_run.specs.steps.Shares.{IsSameRun}
use Rattle.sect_run.proofs.rest.run_rest.Given as goal

abbrev pub invariant-loop : goal.invariant-loop
invariant-loop g l =
    IsSameRun l.initial.world l.world
    × (goal.iterator-loop g).can_next l.iterator' × (goal.iterator-loop g).is_finite l.iterator'
