use Rattle.sect_infer.specs.steps.Working.{IsWorking}
use Rattle.sect_infer.proofs.Bounding.{measure}
use Rattle.sect_infer.proofs.work.settle.Given as goal

abbrev pub invariant-loop-node : goal.invariant-loop-node
invariant-loop-node l = IsWorking l.section.scheme.now l.section.thread l.section.flow.now l.solution.numbering
    l.solution.lists l.waiting

abbrev pub decreases-loop-node : goal.decreases-loop-node
decreases-loop-node l = measure l.section.scheme.now l.section.flow.now l.solution.lists l.waiting
