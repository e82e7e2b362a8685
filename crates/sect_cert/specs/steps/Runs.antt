-- Lists whose elements are kept once and named by number.
use Rattle.std.specs.{Prelude.{ℕ, ◌<◌, List, [], ◌∷◌, ◌++◌, Option, Some, None, slice_get}, List.{AllByRecursion}}

abbrev pub listed : {X : Type 0} → Option X → List X
listed None = []
listed (Some x) = x ∷ []

-- the elements that these numbers name
abbrev pub numbered : {X : Type 0} → List X → List ℕ → List X
numbered kept [] = []
numbered kept (n ∷ ns) = listed (slice_get kept n) ++ numbered kept ns

abbrev pub AreBelow : ℕ → List ℕ → Type 0
AreBelow count ns = AllByRecursion (λ n. n < count) ns
