use Rattle.sect_places.specs.steps.Wanting.{behind}
use Rattle.sect_places.specs.NameUses.{threads_uses}
use Rattle.sect_places.proofs.{Expanding.{items_in_threads}, Walked.{WalkedBy}}
use Rattle.sect_places.proofs.uses.put_threads.Given as goal

abbrev pub invariant-loop-thread : goal.invariant-loop-thread
invariant-loop-thread l =
    WalkedBy behind items_in_threads threads_uses l.threads l.thread-index l.item l.next l.fn.out l.out
