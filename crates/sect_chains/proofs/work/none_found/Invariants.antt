use Rattle.std.proofs.Common.{◌≡◌, ℕ, [], length}
use Rattle.std.specs.Prelude.{slice_index_or}
use Rattle.sect_chains.proofs.work.none_found.Given as goal

abbrev pub invariant-loop : goal.invariant-loop
invariant-loop l = record {
  counted : length l.found.items ≡ l.counter;
  none : (j : ℕ) → slice_index_or l.found.items j [] ≡ [];
}
