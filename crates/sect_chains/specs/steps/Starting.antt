-- Where the steps of the first node stand.
use Rattle.std.specs.Prelude.{◌≡◌, ◌<◌, ℕ, List, Option, Some, length, slice_get}
use Rattle.sect_chains.specs.declared.keep.KeptLink.{KeptLink}

-- for each of so many numbers the index of a step at the first node with it, where one of the first `below` steps is
-- one
pub record AreStarts (count : ℕ) (steps : List KeptLink) (below : ℕ) (starts : List (Option ℕ)) : Type 0 where
  pub counted : length starts ≡ count
  pub right : (n i : ℕ) → slice_get starts n ≡ Some (Some i)
      → (x : KeptLink) × (slice_get steps i ≡ Some x) × (x.node ≡ 0) × (x.number ≡ n)
  pub all : (i : ℕ) (x : KeptLink) → i < below → slice_get steps i ≡ Some x → x.node ≡ 0
      → (k : ℕ) × (slice_get starts x.number ≡ Some (Some k))
