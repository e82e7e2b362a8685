use Rattle.std.proofs.Common.{◌≡◌, ◌≤◌, ◌+◌, ◌-◌, drop, length}
use Rattle.sect_questions.specs.Comments.{line_length as length_of}
use Rattle.sect_questions.proofs.comments.line_length.Given as goal

abbrev pub invariant-line : goal.invariant-line
invariant-line l = record {
  within : l.length ≤ length l.bytes;
  rest : l.length + length_of (drop l.length l.bytes) ≡ length_of l.bytes;
}

abbrev pub decreases-line : goal.decreases-line
decreases-line l = length l.bytes - l.length
