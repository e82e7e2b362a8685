use Rattle.std.proofs.Common.{◌↔◌, ◌<◌, ℕ}
use Rattle.sect_lemmas.specs.Lists.{Has}
use Rattle.sect_infer.specs.Numbers.{AreApart}
use Rattle.sect_infer.proofs.locks.all_below.Given as goal

abbrev pub invariant-loop-number : goal.invariant-loop-number
invariant-loop-number l = record {
  once : AreApart l.below.items;
  all : (n : ℕ) → Has l.below.items n ↔ ((n < l.number) × Has l.numbers n);
}
