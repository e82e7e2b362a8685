-- Lists whose elements are numbered.
use Rattle.std.specs.Prelude.{ℕ, ◌+◌, ⊤, List, [], ◌∷◌}

-- of the elements of two lists, pair by pair, by their numbers, where the first have number n
abbrev pub PairsFrom : {A B : Type 0} → (ℕ → A → B → Type 0) → ℕ → List A → List B → Type 0
PairsFrom R n [] [] = ⊤
PairsFrom R n (a ∷ xs) (b ∷ ys) = R n a b × PairsFrom R (n + 1) xs ys
PairsFrom R n _ _ = ⊥

-- of each element, by its number, where the first has number n
abbrev pub EachFrom : {A : Type 0} → (ℕ → A → Type 0) → ℕ → List A → Type 0
EachFrom P n [] = ⊤
EachFrom P n (a ∷ xs) = P n a × EachFrom P (n + 1) xs
