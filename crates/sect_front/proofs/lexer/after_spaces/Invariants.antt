use Rattle.std.proofs.Common.{◌≡◌, ◌≤◌, false, length}
use Rattle.sect_front.specs.Gaps.{skip}
use Rattle.sect_front.proofs.lexer.after_spaces.Given as goal

abbrev pub invariant-loop-rest : goal.invariant-loop-rest
invariant-loop-rest l = record {
  same : skip false l.rest ≡ skip false l.bytes;
  less : length l.rest ≤ length l.bytes;
}

abbrev pub decreases-loop-rest : goal.decreases-loop-rest
decreases-loop-rest l = length l.rest
