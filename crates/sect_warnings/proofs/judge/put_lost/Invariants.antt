use Rattle.std.proofs.Common.{◌≡◌, ◌++◌, map, take}
use Rattle.sect_warnings.specs.Warnings.{lost_warning}
use Rattle.sect_warnings.proofs.judge.put_lost.Given as goal

abbrev pub invariant-loop-update : goal.invariant-loop-update
invariant-loop-update l = l.found.items ≡ l.fn.found.items ++ map lost_warning (take l.update-index l.lost)
