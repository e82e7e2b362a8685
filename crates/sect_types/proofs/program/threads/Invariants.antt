use Rattle.std.proofs.Common.{drop}
use Rattle.sect_types.specs.Rules.{declared_in}
use Rattle.sect_types.specs.steps.Threads.{AreThreads}
use Rattle.sect_types.proofs.program.threads.Given as goal

abbrev pub invariant-loop-thread : goal.invariant-loop-thread
invariant-loop-thread l =
    AreThreads (declared_in l.context.tree.now) l.context.tree.now.threads (drop l.thread-index l.thread-items)
    l.names l.all.items l.fn.spot
    l.spot
