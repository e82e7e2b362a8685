use Rattle.std.proofs.Common.{◌≡◌, ◌++◌, length}
use Rattle.sect_warnings.specs.{Comments.{unnoted}, Reports.{AreWithin}}
use Rattle.sect_warnings.proofs.comment.unnoted.Given as goal

-- what is left is told later
abbrev pub invariant-loop-warning : goal.invariant-loop-warning
invariant-loop-warning l = (l.told.items ≡ unnoted l.source l.yielded)
    × (l.yielded ++ l.warning-iterator.rest.items ≡ l.initial.warning-iterator.rest.items)
    × AreWithin (length l.source) l.warning-iterator.rest.items
