use Rattle.sect_types.proofs.NumberedSections.{IsSoughtIn}
use Rattle.sect_types.proofs.counting.section.find.Given as goal

abbrev pub invariant-loop-text : goal.invariant-loop-text
invariant-loop-text l = IsSoughtIn l.number l.texts l.thread l.text-index
