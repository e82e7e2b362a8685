use Rattle.std.specs.{List.Sorted.{IsStrictlySortedBy}, Ordering.{nat_cmp}}
use Rattle.std.proofs.Common.{subst, arith}
use Rattle.sect_infer.proofs.Queueing.{sorted_range}
use Rattle.sect_infer.proofs.waiting.Waiting.facts.Goals as goal

pub returns : goal.returns
returns c = subst (IsStrictlySortedBy nat_cmp) c.self.view_is
    (sorted_range 0 c.self.inside.below c.self.inside.others.keys
    (λ y h. let from = c.self.invariant.from y h in omega (arith, from)) c.self.invariant.ordered)
