use Rattle.sect_places.specs.Origins.{threads_origins, threads_sections}
use Rattle.sect_places.specs.steps.Calls.{expands, expands_sections}
use Rattle.sect_places.proofs.{Walked.{Walked}, Expanding.{items_in_threads}}
use Rattle.sect_places.proofs.nodes.put_threads.Given as goal

abbrev pub invariant-loop-thread : goal.invariant-loop-thread
invariant-loop-thread l =
    Walked items_in_threads (threads_origins l.inside.procedures.now (expands l.inside)) l.threads l.thread-index l.item
    l.next l.fn.out.items l.out.items
    × Walked items_in_threads
    (threads_sections l.inside.procedures.now (expands l.inside) (expands_sections l.inside)) l.threads l.thread-index
    l.item l.next l.fn.sections.items l.sections.items
