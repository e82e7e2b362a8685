use Rattle.sect_warnings.specs.steps.Usage.{AreFirstUsed}
use Rattle.sect_warnings.proofs.fields.usages_of.Given as goal

abbrev pub invariant-loop-section : goal.invariant-loop-section
invariant-loop-section l = AreFirstUsed l.compiled l.section l.usages.items
