use Rattle.std.proofs.Common.{◌≡◌, ◌++◌, drop, true}
use Rattle.sect_types.specs.steps.{Listing.{locals_fine}, FreshTypes.{local_types, all_fresh_known}}
use Rattle.sect_types.proofs.declarations.types.local_types.Given as goal

abbrev pub invariant-loop-number : goal.invariant-loop-number
invariant-loop-number l =
    (l.all.items ++ local_types l.record_names (drop l.number l.threads) (drop l.number l.fresh)
    ≡ local_types l.record_names l.threads l.fresh)
    × (locals_fine l.record_names (drop l.number l.threads) ≡ true)
    × (all_fresh_known l.record_names (drop l.number l.fresh) ≡ true)
