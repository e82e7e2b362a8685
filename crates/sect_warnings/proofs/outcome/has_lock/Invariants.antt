use Rattle.std.proofs.Common.{take}
use Rattle.sect_lemmas.specs.Lists.{Has}
use Rattle.sect_warnings.specs.ClassLocks.{class_lock}
use Rattle.sect_warnings.proofs.outcome.has_lock.Given as goal

abbrev pub invariant-loop-lock : goal.invariant-loop-lock
invariant-loop-lock l = Has (take l.lock-index l.set) (class_lock l.wanted.class l.wanted.effect) → ⊥
