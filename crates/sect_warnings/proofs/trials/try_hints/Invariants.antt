use Rattle.sect_warnings.specs.steps.Trials.{IsTriedBelow, AreNoted}
use Rattle.sect_warnings.proofs.trials.try_hints.Given as goal

abbrev pub invariant-loop-guarded : goal.invariant-loop-guarded
invariant-loop-guarded l =
    AreNoted (IsTriedBelow l.accepted.source.now l.accepted.names.now l.accepted.compiled.now l.guarded) l.trials
    l.fn.placed.items l.placed.items
