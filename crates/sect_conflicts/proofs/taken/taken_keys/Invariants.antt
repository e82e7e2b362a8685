use Rattle.sect_conflicts.specs.steps.Taking.{AreFirstTaken}
use Rattle.sect_conflicts.proofs.taken.taken_keys.Given as goal

abbrev pub invariant-loop-section : goal.invariant-loop-section
invariant-loop-section l = AreFirstTaken l.compiled l.section l.sections.items
