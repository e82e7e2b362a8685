use Rattle.std.proofs.Common.{◌≡◌, ℕ, Option, None, length}
use Rattle.sect_lemmas.specs.Lists.{Has}
use Rattle.sect_chains.proofs.starts.no_starts.Given as goal

abbrev pub invariant-loop : goal.invariant-loop
invariant-loop l = record {
  counted : length l.starts.items ≡ l.counter;
  none : (o : Option ℕ) → Has l.starts.items o → o ≡ None;
}
