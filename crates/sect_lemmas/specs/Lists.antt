-- Words on lists.
use Rattle.std.specs.Prelude.{ℕ, zero, suc, List, [], ◌∷◌, ◌≡◌, ◌⊎◌}

-- the list with its n-th element changed
abbrev pub changed_at : {X : Type 0} → ℕ → (X → X) → List X → List X
changed_at n g [] = []
changed_at zero g (x ∷ xs) = g x ∷ xs
changed_at (suc n) g (x ∷ xs) = x ∷ changed_at n g xs

-- the list with x in place of its n-th element
abbrev pub put_at : {X : Type 0} → ℕ → X → List X → List X
put_at n x xs = changed_at n (λ old. x) xs

-- x stands in the list
abbrev pub Has : {X : Type 0} → List X → X → Type 0
Has [] x = ⊥
Has (y ∷ ys) x = (y ≡ x) ⊎ Has ys x
