use Rattle.std.proofs.Common.{◌≡◌, ℕ, [], length}
use Rattle.sect_types.specs.steps.Called.{AreCallersBefore, callers_of}
use Rattle.sect_types.proofs.rules.called.callers_of.Given as goal

abbrev pub invariant-loop-number : goal.invariant-loop-number
invariant-loop-number l = AreCallersBefore l.number l.procedures l.callers.items

abbrev pub invariant-loop : goal.invariant-loop
invariant-loop l = (length l.callers.items ≡ l.index) × ((q : ℕ) → callers_of l.callers.items q ≡ [])
