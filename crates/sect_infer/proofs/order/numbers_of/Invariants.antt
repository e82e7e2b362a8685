use Rattle.std.proofs.Common.{◌≡◌, map, take}
use Rattle.sect_infer.specs.declared.order.NumberedLock.{NumberedLock}
use Rattle.sect_infer.proofs.order.numbers_of.Given as goal

abbrev pub invariant-loop-lock : goal.invariant-loop-lock
invariant-loop-lock l = l.numbers.items ≡ map (λ (x : NumberedLock). x.number) (take l.lock-index l.locks)
