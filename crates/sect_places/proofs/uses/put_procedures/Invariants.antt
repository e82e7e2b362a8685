use Rattle.sect_places.specs.steps.Wanting.{behind}
use Rattle.sect_places.specs.{NameUses.{procedures_uses}, ItemCounts.{items_in_procedures}}
use Rattle.sect_places.proofs.Walked.{WalkedBy}
use Rattle.sect_places.proofs.uses.put_procedures.Given as goal

abbrev pub invariant-loop-procedure : goal.invariant-loop-procedure
invariant-loop-procedure l =
    WalkedBy behind items_in_procedures procedures_uses l.procedures l.procedure-index l.item l.next l.fn.out l.out
