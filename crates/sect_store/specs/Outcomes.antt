-- What a run has come to. `Outcome` is seen so; `put_outcome` cites it.
use Rattle.std.specs.Prelude.{ℕ, ℤ, List, Option}
use Rattle.sect_types.specs.{declared.meaning.store.End.{End}, Store.{StoreView}}

-- how each thread has ended, by number, if it has; the threads whose sections ran, in their order; the output; the
-- store
pub record OutcomeView : Type 0 where
  pub ends : List (Option End)
  pub order : List ℕ
  pub output : List ℤ
  pub store : StoreView
