use Rattle.std.proofs.Common.{◌≡◌, List, ℕ, nat_eq, take}
use Rattle.std.specs.Cmp.Lexicographic.{pointwise}
use Rattle.indexmap.specs.IndexMap.{get}
use Rattle.sect_types.specs.Sums.{number_of}
use Rattle.sect_types.proofs.rules.called.numbers_of.Given as goal

abbrev pub invariant-loop-number : goal.invariant-loop-number
invariant-loop-number l =
    (x : List ℕ) → get (pointwise nat_eq) l.numbers x ≡ number_of (take l.number l.procedures) x
