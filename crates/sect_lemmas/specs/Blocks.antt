-- A list that is cut into blocks of given lengths.
use Rattle.std.specs.Prelude.{◌≤◌, ⊤, ℕ, List, [], ◌∷◌, length, take, drop}

-- the blocks of these lengths, one behind the other
abbrev pub blocks_of : {A : Type 0} → List ℕ → List A → List (List A)
blocks_of [] xs = []
blocks_of (n ∷ ns) xs = take n xs ∷ blocks_of ns (drop n xs)

-- the list is long enough for them
abbrev pub AreEnough : {A : Type 0} → List ℕ → List A → Type 0
AreEnough [] xs = ⊤
AreEnough (n ∷ ns) xs = (n ≤ length xs) × AreEnough ns (drop n xs)
