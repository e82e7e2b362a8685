use Rattle.std.proofs.Common.{drop}
use Rattle.sect_types.specs.steps.Expanding.{AreWritten}
use Rattle.sect_types.proofs.expansion.expand.expand.Given as goal

abbrev pub invariant-loop-number : goal.invariant-loop-number
invariant-loop-number l =
    AreWritten l.setting l.threads (drop l.number l.threads) l.sites l.sections l.texts.items l.fresh.items
