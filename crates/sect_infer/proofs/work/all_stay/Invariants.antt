use Rattle.std.proofs.Common.{take}
use Rattle.sect_infer.specs.Numberings.{HasLock}
use Rattle.sect_infer.specs.steps.Working.{AllStay}
use Rattle.sect_infer.proofs.work.all_stay.Given as goal

abbrev pub invariant-loop-number : goal.invariant-loop-number
invariant-loop-number l = AllStay l.thread l.label (HasLock l.numbering.keys (take l.number-index l.numbers))
