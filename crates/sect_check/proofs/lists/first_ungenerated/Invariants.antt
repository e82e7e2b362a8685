use Rattle.std.proofs.Common.{ℕ, ◌<◌}
use Rattle.sect_names.specs.Needed.{end_locks}
use Rattle.sect_check.specs.Valid.{CoversGenerated}
use Rattle.sect_check.proofs.lists.first_ungenerated.Given as goal

abbrev pub invariant-loop-node : goal.invariant-loop-node
invariant-loop-node l = (m : ℕ) → m < l.node
    → CoversGenerated l.section.scheme.now l.section.thread (end_locks l.section.locking) l.section.flow.now l.claims m
