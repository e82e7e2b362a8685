use Rattle.std.proofs.Common.{◌≡◌, ◌++◌, drop}
use Rattle.sect_emit.proofs.words.shared.Given as goal

abbrev pub invariant-loop-lock : goal.invariant-loop-lock
invariant-loop-lock l = l.list.items ++ drop l.lock-index l.locks ≡ l.locks
