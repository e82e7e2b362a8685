-- Rows of a table.
use Rattle.std.proofs.Common.{◌≡◌, ℕ, zero, suc, List, [], ◌∷◌, map, Some, ap}
use Rattle.std.specs.Prelude.{slice_get, slice_index_or}

-- the row that is made from what stands there
pub row_of : {X Y : Type 0} (f : X → List Y) (xs : List X) (i : ℕ) (x : X) → slice_get xs i ≡ Some x
    → slice_index_or (map f xs) i [] ≡ f x
row_of f [] i x e = absurd cc
row_of f (y ∷ xs) zero x e = let same : y ≡ x = cc in ap f same
row_of f (y ∷ xs) (suc i) x e = row_of f xs i x e
