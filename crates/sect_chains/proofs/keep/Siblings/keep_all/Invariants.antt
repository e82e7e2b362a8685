use Rattle.std.proofs.Common.{◌≡◌, take}
use Rattle.sect_chains.specs.steps.Keeping.{kept, keep_each}
use Rattle.sect_chains.proofs.keep.Siblings.keep_all.Given as goal

abbrev pub invariant-loop-number : goal.invariant-loop-number
invariant-loop-number l = kept l.found.items l.steps.items
    ≡ keep_each l.numbering.above (kept l.fn.found.items l.fn.steps.items) l.self.node l.self.next
    (take l.number-index l.numbers)
