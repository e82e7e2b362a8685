use Rattle.std.proofs.Common.{◌≡◌, ◌≤◌, ◌+◌, ◌++◌, drop}
use Rattle.sect_questions.specs.Comments.{asked_from, asked_of}
use Rattle.sect_questions.proofs.comments.asked_in.Given as goal

abbrev pub invariant-loop-place : goal.invariant-loop-place
invariant-loop-place l = record {
  lines : l.line ≤ l.place + 1;
  found : l.found.items ++ asked_from l.comment l.place l.line (drop l.place l.source) ≡ asked_of l.source;
}
