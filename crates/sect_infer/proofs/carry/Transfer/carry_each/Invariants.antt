use Rattle.std.proofs.Common.{take}
use Rattle.sect_infer.specs.Numberings.{Finds}
use Rattle.sect_infer.proofs.Carrying.{CarriedOf}
use Rattle.sect_infer.proofs.carry.Transfer.carry_each.Given as goal

abbrev pub invariant-loop-number : goal.invariant-loop-number
invariant-loop-number l = Finds l.self.scheme.now l.fn.numbering l.fn.found l.numbering l.found
    (CarriedOf l.self.scheme.now l.self.thread l.self.label.now l.fn.numbering.keys (take l.number-index l.numbers))
