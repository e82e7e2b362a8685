use Rattle.std.proofs.Common.{◌≡◌, length}
use Rattle.sect_lint.specs.steps.Linked.{AreNext}
use Rattle.sect_lint.proofs.circle.next_calls.Given as goal

abbrev pub invariant-loop-round : goal.invariant-loop-round
invariant-loop-round l = record { many : length l.next.items ≡ l.count; next : AreNext l.links l.next.items }
