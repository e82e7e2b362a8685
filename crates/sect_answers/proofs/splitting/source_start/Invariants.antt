use Rattle.std.proofs.Common.{◌-◌, ◌≤◌, length}
use Rattle.sect_answers.proofs.Cutting.{IsCutSo}
use Rattle.sect_answers.proofs.splitting.source_start.Given as goal

abbrev pub invariant-loop-len : goal.invariant-loop-len
invariant-loop-len l = record {
  so : IsCutSo l.input l.start l.start;
  within : l.start ≤ length l.input;
}

abbrev pub decreases-loop-len : goal.decreases-loop-len
decreases-loop-len l = length l.input - l.start
