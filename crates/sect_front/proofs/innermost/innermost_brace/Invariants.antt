use Rattle.std.proofs.Common.{length}
use Rattle.sect_front.proofs.OpenBraces.{OpenHere}
use Rattle.sect_front.proofs.innermost.innermost_brace.Given as goal

abbrev pub invariant-loop-here : goal.invariant-loop-here
invariant-loop-here l = OpenHere l.text.bytes.now l.here l.braces.items

abbrev pub decreases-loop-here : goal.decreases-loop-here
decreases-loop-here l = length l.here
