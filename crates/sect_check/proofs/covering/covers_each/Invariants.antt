use Rattle.std.proofs.Common.{take}
use Rattle.sect_lemmas.specs.Lists.{Has}
use Rattle.sect_names.specs.{declared.lock.Lock.{Lock}, Locks.{CoveredBy}}
use Rattle.sect_check.proofs.covering.covers_each.Given as goal

abbrev pub invariant-loop-lock : goal.invariant-loop-lock
invariant-loop-lock l = (x : Lock) → Has (take l.lock-index l.locks) x → CoveredBy l.scheme l.above.locks.now x
