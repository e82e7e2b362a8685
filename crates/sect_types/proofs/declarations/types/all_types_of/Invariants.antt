use Rattle.std.proofs.Common.{◌≡◌, ◌++◌, drop, true}
use Rattle.sect_types.specs.Environments.{types_of}
use Rattle.sect_types.specs.steps.FreshTypes.{fresh_types, fresh_known}
use Rattle.sect_types.proofs.declarations.types.all_types_of.Given as goal

abbrev pub invariant-loop-local : goal.invariant-loop-local
invariant-loop-local l =
    (l.types ++ fresh_types l.record_names (drop l.local-index l.local-items)
    ≡ types_of l.record_names l.thread.locals ++ fresh_types l.record_names l.local-items)
    × (fresh_known l.record_names (drop l.local-index l.local-items) ≡ true) × (l.local-items ≡ l.fresh)
