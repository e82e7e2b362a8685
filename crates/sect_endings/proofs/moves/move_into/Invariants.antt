use Rattle.std.proofs.Common.{◌≡◌, ◌<◌, ℕ, Some}
use Rattle.sect_endings.specs.{Graphs.{go}, steps.Sets.{In}}
use Rattle.sect_endings.proofs.moves.move_into.Given as goal

abbrev pub invariant-loop-thread : goal.invariant-loop-thread
invariant-loop-thread l = (t : ℕ) → t < l.thread → (q : ℕ) → go l.graph l.state t ≡ Some q → In l.marks q → ⊥
