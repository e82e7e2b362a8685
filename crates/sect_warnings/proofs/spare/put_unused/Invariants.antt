use Rattle.std.proofs.Common.{◌≡◌, ◌++◌, take}
use Rattle.std.specs.List.{flat_map}
use Rattle.sect_warnings.specs.Spares.{unused_at}
use Rattle.sect_warnings.proofs.spare.put_unused.Given as goal

abbrev pub invariant-loop-named : goal.invariant-loop-named
invariant-loop-named l = l.found.items ≡ l.fn.found.items ++ flat_map unused_at (take l.named-index l.names)
