use Rattle.std.specs.{List.{count_by}, Prelude.{nat_eq}}
use Rattle.sect_endings.specs.steps.Walking.{IsRunning}
use Rattle.sect_endings.proofs.rounds.round_of.Given as goal

abbrev pub invariant-round : goal.invariant-round
invariant-round l =
    IsRunning l.graph l.within l.threads l.fn.run.state l.run.order.items l.seen.items l.run.state

abbrev pub decreases-round : goal.decreases-round
decreases-round l = count_by (λ at. nat_eq at 0) l.seen.items
