use Rattle.std.proofs.Common.{◌≡◌, ◌≤◌, true, length}
use Rattle.sect_front.specs.Gaps.{skip}
use Rattle.sect_front.proofs.lexer.after_comment.Given as goal

abbrev pub invariant-loop-near : goal.invariant-loop-near
invariant-loop-near l = record {
  same : skip true l.rest ≡ skip true l.bytes;
  less : length l.rest ≤ length l.bytes;
}
