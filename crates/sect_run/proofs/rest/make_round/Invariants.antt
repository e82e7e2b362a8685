use Rattle.sect_run.specs.steps.Shares.{IsSameRun}
use Rattle.sect_run.proofs.rest.make_round.Given as goal

abbrev pub invariant-loop-thread : goal.invariant-loop-thread
invariant-loop-thread g l = IsSameRun l.initial.world l.world
