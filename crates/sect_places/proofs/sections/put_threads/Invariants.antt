use Rattle.std.proofs.Common.{◌≡◌, ℕ, ◌++◌, List, drop}
use Rattle.sect_places.specs.SectionItems.{threads_section_items}
use Rattle.sect_places.proofs.sections.put_threads.Given as goal

abbrev pub invariant-loop-thread : goal.invariant-loop-thread
invariant-loop-thread l =
    (w : List ℕ) → l.found.items ++ threads_section_items l.next (drop l.thread-index l.threads) w ≡ l.fn.found.items
    ++ threads_section_items l.item l.threads w
