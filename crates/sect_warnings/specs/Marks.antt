-- What a warning marks, as contracts see it.
use Rattle.std.specs.Prelude.{ℕ, List}

-- the item whose bytes are marked, what is said of them, and what it means
pub record MarkView : Type 0 where
  pub item : ℕ
  pub label : List ℕ
  pub note : List ℕ
