use Rattle.std.proofs.Common.{◌≡◌, ◌++◌, map, take}
use Rattle.sect_warnings.specs.Spares.{hint_at}
use Rattle.sect_warnings.proofs.spare.put_hints.Given as goal

abbrev pub invariant-loop-named : goal.invariant-loop-named
invariant-loop-named l = l.found.items ≡ l.fn.found.items ++ map hint_at (take l.named-index l.records)
