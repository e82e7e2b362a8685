use Rattle.sect_places.specs.{Counts.{records_count}, Ranges.{records_ranges}}
use Rattle.sect_places.proofs.Seeking.{Sought}
use Rattle.sect_places.proofs.seek.seek_records.Given as goal

abbrev pub invariant-loop-declared : goal.invariant-loop-declared
invariant-loop-declared l =
    Sought records_count records_ranges l.records l.declared-index l.fn.ahead.at l.here.at l.fn.ahead.items l.here.items
