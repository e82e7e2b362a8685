use Rattle.std.proofs.Common.{◌≡◌, take}
use Rattle.sect_infer.specs.Numberings.{fresh_from}
use Rattle.sect_infer.proofs.work.fresh.Given as goal

abbrev pub invariant-loop-number : goal.invariant-loop-number
invariant-loop-number l =
    l.fresh.items ≡ fresh_from l.numbering.above l.found.all.now (take l.number-index l.found.more.now)
