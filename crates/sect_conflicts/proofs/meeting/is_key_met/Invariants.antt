use Rattle.std.proofs.Common.{◌<◌, ℕ}
use Rattle.sect_conflicts.specs.steps.Taking.{IsKeyMetBy}
use Rattle.sect_conflicts.proofs.meeting.is_key_met.Given as goal

abbrev pub invariant-loop-section : goal.invariant-loop-section
invariant-loop-section l = (j : ℕ) → j < l.section → IsKeyMetBy l.others.compiled.now l.others.thread l.wish j → ⊥
