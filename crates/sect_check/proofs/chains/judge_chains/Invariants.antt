use Rattle.std.proofs.Common.{ℕ, ◌<◌}
use Rattle.sect_names.specs.Needed.{end_locks}
use Rattle.sect_check.specs.Valid.{HasItsChain}
use Rattle.sect_check.proofs.chains.judge_chains.Given as goal

abbrev pub invariant-loop-number : goal.invariant-loop-number
invariant-loop-number l = (m : ℕ) → m < l.number
    → HasItsChain l.section.scheme.now l.section.thread (end_locks l.section.locking) l.section.flow.now l.claims m
