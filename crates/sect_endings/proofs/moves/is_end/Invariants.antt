use Rattle.std.proofs.Common.{◌≡◌, ◌<◌, ℕ, None}
use Rattle.sect_endings.specs.Graphs.{go}
use Rattle.sect_endings.proofs.moves.is_end.Given as goal

abbrev pub invariant-loop-thread : goal.invariant-loop-thread
invariant-loop-thread l = (t : ℕ) → t < l.thread → go l.graph l.state t ≡ None
