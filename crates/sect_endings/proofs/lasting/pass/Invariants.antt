use Rattle.sect_endings.specs.steps.Lasting.{IsPassed}
use Rattle.sect_endings.proofs.lasting.pass.Given as goal

abbrev pub invariant-loop-thread : goal.invariant-loop-thread
invariant-loop-thread l = IsPassed l.graph l.threads l.thread l.fn.marks l.marks l.changed
