use Rattle.std.proofs.Common.{◌≡◌, ◌+◌, ◌++◌, drop}
use Rattle.sect_places.specs.{ItemCounts.{items_in_procedures}, Origins.{procedure_items}}
use Rattle.sect_places.proofs.item_counts.procedure_items.Given as goal

abbrev pub invariant-loop-procedure : goal.invariant-loop-procedure
invariant-loop-procedure l =
    (l.items.items ++ procedure_items l.next (drop l.procedure-index l.procedures)
    ≡ procedure_items l.item l.procedures)
    × (l.next + items_in_procedures (drop l.procedure-index l.procedures) ≡ l.item + items_in_procedures l.procedures)
