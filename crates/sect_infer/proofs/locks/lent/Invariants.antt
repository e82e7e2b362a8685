use Rattle.std.proofs.Common.{◌≡◌, [], map, take}
use Rattle.std.specs.{List.{filter}, Map.Iter.{deref}}
use Rattle.sect_infer.specs.{Numbers.{with_numbers}, Numberings.{lock_at}}
use Rattle.sect_infer.specs.steps.Listing.{is_kept}
use Rattle.sect_infer.proofs.locks.lent.Given as goal

abbrev pub invariant-loop-number : goal.invariant-loop-number
invariant-loop-number l = map deref l.locks.items ≡ map (lock_at l.numbering.keys)
    (filter (is_kept l.numbering.above (with_numbers [] l.numbers)) (take l.number-index l.order))
