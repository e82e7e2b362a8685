-- Nodes that wait: all below one, and some from it on.
use Rattle.std.specs.{Prelude.{◌≤◌, ℕ, List}, List.Sorted.{IsStrictlySortedBy}, Ordering.{nat_cmp}}
use Rattle.sect_lemmas.specs.Lists.{Has}

-- in order, and none below
pub record IsQueue (below : ℕ) (others : List ℕ) : Type 0 where
  pub ordered : IsStrictlySortedBy nat_cmp others
  pub from : (i : ℕ) → Has others i → below ≤ i
