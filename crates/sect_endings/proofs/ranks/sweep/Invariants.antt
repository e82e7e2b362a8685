use Rattle.sect_endings.proofs.Ranked.{IsSwept}
use Rattle.sect_endings.proofs.ranks.sweep.Given as goal

abbrev pub invariant-loop-step : goal.invariant-loop-step
invariant-loop-step l = IsSwept l.graph l.within l.goals l.ranks l.ranked l.count l.step
