use Rattle.std.specs.Prelude.{IfSome}
use Rattle.sect_emit.specs.Compiled.{IsCompiledFrom}
use Rattle.sect_warnings.specs.steps.Reasons.{AreReasons}
use Rattle.sect_warnings.proofs.Placing.{ArePut}
use Rattle.sect_warnings.proofs.place.some_places.Given as goal

abbrev pub invariant-loop-warning : goal.invariant-loop-warning
invariant-loop-warning l =
    ArePut l.accepted.source.now l.accepted.names.now l.accepted.compiled.now l.spans.items l.found
    l.warning-index l.placed.items l.trials.items
    × IfSome l.kept.reasons (AreReasons l.accepted.compiled.now)
    × IfSome l.kept.deep (IsCompiledFrom l.accepted.source.now 3)
