use Rattle.std.proofs.Common.{◌≡◌, ◌++◌}
use Rattle.sect_warnings.specs.Rulings.{told_by}
use Rattle.sect_warnings.proofs.ruling.told_of.Given as goal

-- what is left is told later
abbrev pub invariant-loop-warning : goal.invariant-loop-warning
invariant-loop-warning l = (l.told.items ≡ told_by l.rulings l.yielded)
    × (l.yielded ++ l.warning-iterator.rest.items ≡ l.initial.warning-iterator.rest.items)
