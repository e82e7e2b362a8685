use Rattle.std.proofs.Common.{◌≡◌, ◌++◌, List, drop}
use Rattle.sect_types.specs.Lockings.{threads_lockings}
use Rattle.sect_front.specs.declared.tree.Locking.{Locking}
use Rattle.sect_types.proofs.expansion.locking.put_threads.Given as goal

abbrev pub invariant-loop-thread : goal.invariant-loop-thread
invariant-loop-thread l =
    (w : List Locking) → l.out.items ++ threads_lockings (drop l.thread-index l.threads) w ≡ l.fn.out.items
    ++ threads_lockings l.threads w
