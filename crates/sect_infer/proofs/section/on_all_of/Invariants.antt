use Rattle.std.proofs.Common.{◌≡◌, ◌+◌, ◌<◌, ◌≤◌, ℕ, [], ◌∷◌, length}
use Rattle.std.specs.Prelude.{slice_index_or}
use Rattle.sect_infer.proofs.section.on_all_of.Given as goal

abbrev pub invariant-loop-node : goal.invariant-loop-node
invariant-loop-node l = record {
  count : length l.lists ≡ length l.flow + 1;
  done : (j : ℕ) → j < l.node → slice_index_or l.lists j [] ≡ l.number ∷ [];
  left : (j : ℕ) → l.node ≤ j → slice_index_or l.lists j [] ≡ [];
}
