use Rattle.sect_places.specs.steps.Wanting.{behind}
use Rattle.sect_places.specs.{NameUses.{records_uses}, ItemCounts.{items_in_records}}
use Rattle.sect_places.proofs.Walked.{WalkedBy}
use Rattle.sect_places.proofs.uses.put_records.Given as goal

abbrev pub invariant-loop-declared : goal.invariant-loop-declared
invariant-loop-declared l =
    WalkedBy behind items_in_records records_uses l.records l.declared-index l.item l.next l.fn.out l.out
