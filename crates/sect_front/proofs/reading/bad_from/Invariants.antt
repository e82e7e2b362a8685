use Rattle.std.proofs.Common.{length}
use Rattle.sect_front.proofs.Texts.{Leads}
use Rattle.sect_front.proofs.reading.bad_from.Given as goal

abbrev pub invariant-loop-here : goal.invariant-loop-here
invariant-loop-here l = Leads l.bytes l.here-2 l.here

abbrev pub decreases-loop-here : goal.decreases-loop-here
decreases-loop-here l = length l.here
