use Rattle.std.proofs.Common.{◌≡◌, ◌+◌, drop}
use Rattle.sect_places.specs.ItemCounts.{items_in_records}
use Rattle.sect_places.proofs.item_counts.past_records.Given as goal

abbrev pub invariant-loop-declared : goal.invariant-loop-declared
invariant-loop-declared l =
    l.next + items_in_records (drop l.declared-index l.records) ≡ l.item + items_in_records l.records
