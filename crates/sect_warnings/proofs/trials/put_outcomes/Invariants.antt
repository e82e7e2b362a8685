use Rattle.std.specs.String.{string_bytes}
use Rattle.sect_warnings.specs.{Hinting.{hint_words}, steps.Trials.{IsAdded, sought}}
use Rattle.sect_warnings.proofs.Trying.{AreNotedBelow}
use Rattle.sect_warnings.proofs.trials.put_outcomes.Given as goal

abbrev pub invariant-loop-number : goal.invariant-loop-number
invariant-loop-number l =
    AreNotedBelow (λ t. IsAdded l.tried.compiled (hint_words l.tried.name (string_bytes l.tried.guard))
    (sought l.guarded t)) l.trials l.fn.placed.items l.number l.placed.items
