use Rattle.sect_infer.specs.Sets.{AreInferredBelow}
use Rattle.sect_emit.proofs.compiling.all_locks.Given as goal

abbrev pub invariant-loop-section : goal.invariant-loop-section
invariant-loop-section l = AreInferredBelow l.scheme l.section l.all.items
