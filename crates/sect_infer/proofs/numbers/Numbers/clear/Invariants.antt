use Rattle.std.proofs.Common.{◌≡◌, ℕ, drop, false}
use Rattle.std.specs.Prelude.{slice_index_or}
use Rattle.sect_infer.specs.Numbers.{has_number}
use Rattle.sect_infer.proofs.numbers.Numbers.clear.Given as goal

abbrev pub invariant-loop-number : goal.invariant-loop-number
invariant-loop-number l = record {
  told : (n : ℕ) → slice_index_or l.self-inside.1.1.0.items n false ≡ has_number (drop l.number-index l.number-items) n;
  same : l.self-inside.1.0.items ≡ l.number-items;
}
