use Rattle.std.proofs.Common.{◌≡◌, ◌++◌, drop}
use Rattle.std.specs.List.{flat_map}
use Rattle.sect_conflicts.specs.Taken.{lock_fields}
use Rattle.sect_conflicts.proofs.taken.add_fields.Given as goal

abbrev pub invariant-loop-lock : goal.invariant-loop-lock
invariant-loop-lock l = record {
  added : l.fields.items ++ flat_map lock_fields (drop l.lock-index l.paths) ≡ l.fn.fields.items
      ++ flat_map lock_fields l.paths;
}
