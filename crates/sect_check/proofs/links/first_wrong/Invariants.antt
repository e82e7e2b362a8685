use Rattle.std.proofs.Common.{ℕ, ◌<◌}
use Rattle.sect_names.specs.Needed.{end_locks}
use Rattle.sect_check.specs.Faults.{ComesRight, EndsRight}
use Rattle.sect_check.proofs.links.first_wrong.Given as goal

abbrev pub invariant-loop-number : goal.invariant-loop-number
invariant-loop-number l = (m : ℕ) → m < l.number
    → ComesRight l.section.scheme.now l.section.thread l.section.flow.now l.links m
    × EndsRight l.section.scheme.now l.section.thread (end_locks l.section.locking) l.section.flow.now l.links m
