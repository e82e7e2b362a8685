use Rattle.std.proofs.Common.{◌≡◌, ◌+◌, drop}
use Rattle.sect_lint.specs.Places.{record_item}
use Rattle.sect_lint.proofs.culprit.record_item.Given as goal

abbrev pub invariant-loop-declared : goal.invariant-loop-declared
invariant-loop-declared l =
    l.item + record_item (drop l.declared-index l.records) l.left ≡ record_item l.records l.number
