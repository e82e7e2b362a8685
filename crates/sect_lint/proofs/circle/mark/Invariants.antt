use Rattle.std.proofs.Common.{◌≡◌, length}
use Rattle.sect_lint.specs.steps.Linked.{AreNext}
use Rattle.sect_lint.proofs.circle.mark.Given as goal

abbrev pub invariant-loop-link : goal.invariant-loop-link
invariant-loop-link l = record {
  many : length l.next.items ≡ length l.fn.next.items;
  next : AreNext l.links l.next.items;
}
