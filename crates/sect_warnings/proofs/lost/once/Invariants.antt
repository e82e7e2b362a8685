use Rattle.std.proofs.Common.{◌≡◌, [], take, fold}
use Rattle.sect_warnings.specs.Lost.{with_update}
use Rattle.sect_warnings.proofs.lost.once.Given as goal

abbrev pub invariant-loop-update : goal.invariant-loop-update
invariant-loop-update l = l.list.items ≡ fold with_update [] (take l.update-index l.all)
