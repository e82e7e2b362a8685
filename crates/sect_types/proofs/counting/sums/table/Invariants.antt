use Rattle.std.proofs.Common.{◌≡◌, map}
use Rattle.sect_types.specs.Sums.{sums_within}
use Rattle.sect_types.specs.steps.Capped.{capped, AreSmall}
use Rattle.sect_types.proofs.counting.sums.table.Given as goal

abbrev pub invariant-loop : goal.invariant-loop
invariant-loop l = (l.table.items ≡ map capped (sums_within l.counter l.called)) × AreSmall l.table.items
