use Rattle.std.proofs.Common.{◌≡◌, ◌<◌, ℕ, Some}
use Rattle.sect_endings.specs.{Graphs.{go}, steps.Sets.{rank_of}}
use Rattle.sect_endings.proofs.moves.move_below.Given as goal

abbrev pub invariant-loop-thread : goal.invariant-loop-thread
invariant-loop-thread l =
    (t : ℕ) → t < l.thread → (q : ℕ) → go l.graph l.state t ≡ Some q → rank_of l.graph l.ranks q < l.bound → ⊥
