use Rattle.std.proofs.Common.{◌≡◌, Some, map, take}
use Rattle.std.specs.Prelude.{slice_get}
use Rattle.sect_lemmas.specs.Lists.{Has}
use Rattle.sect_infer.specs.declared.order.NumberedLock.{NumberedLock}
use Rattle.sect_infer.proofs.order.with_locks.Given as goal

abbrev pub invariant-loop-number : goal.invariant-loop-number
invariant-loop-number l = record {
  numbers : map (λ (x : NumberedLock). x.number) l.locks.items ≡ take l.number-index l.numbers;
  locks : (x : NumberedLock) → Has l.locks.items x → slice_get l.numbering.keys x.number ≡ Some x.lock.now;
}
