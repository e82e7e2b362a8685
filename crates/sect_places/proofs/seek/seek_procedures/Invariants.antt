use Rattle.sect_places.specs.{Counts.{procedures_count}, Ranges.{procedures_ranges}}
use Rattle.sect_places.proofs.Seeking.{Sought}
use Rattle.sect_places.proofs.seek.seek_procedures.Given as goal

abbrev pub invariant-loop-procedure : goal.invariant-loop-procedure
invariant-loop-procedure l =
    Sought procedures_count procedures_ranges l.procedures l.procedure-index l.fn.ahead.at l.here.at l.fn.ahead.items
    l.here.items
