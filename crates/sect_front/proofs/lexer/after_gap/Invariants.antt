use Rattle.std.proofs.Common.{◌≡◌, false, length}
use Rattle.sect_front.specs.Gaps.{skip, after_gap}
use Rattle.sect_front.proofs.lexer.after_gap.Given as goal

abbrev pub invariant-loop-first : goal.invariant-loop-first
invariant-loop-first l = skip false l.rest ≡ after_gap l.bytes

abbrev pub decreases-loop-first : goal.decreases-loop-first
decreases-loop-first l = length l.rest
