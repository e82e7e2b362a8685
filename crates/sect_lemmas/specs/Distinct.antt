-- Lists without repetition.
use Rattle.std.specs.Prelude.{ℕ, List, ◌≡◌, Some, slice_get}

-- what stands at two places isn't the same
abbrev pub AreDistinct : {X : Type 0} → List X → Type 0
AreDistinct {X} xs = (i j : ℕ) (x : X) → slice_get xs i ≡ Some x → slice_get xs j ≡ Some x → i ≡ j
