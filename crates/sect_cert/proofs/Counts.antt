-- Tests on numbers, and elements of lists.
use Rattle.std.proofs.Common.{◌≡◌, ℕ, zero, suc, ◌<◌, true, eqb, List, [], ◌∷◌, ◌++◌, Some, length, refl, arith}
use Rattle.std.proofs.lemmas.Bool.Decides.{nat_tests}
use Rattle.std.specs.{Prelude.{slice_get}, List.{AllByRecursion}}

-- a number is equal to itself
pub same : (n : ℕ) → eqb n n ≡ true
same n = grind (arith, nat_tests)

-- what stands at a place
pub at_of : {A : Type 0} (xs : List A) (i : ℕ) → i < length xs → (x : A) × (slice_get xs i ≡ Some x)
at_of [] i h = absurd (omega (arith, h))
at_of (x ∷ xs) zero h = (x, refl)
at_of (x ∷ xs) (suc i) h = at_of xs i (omega (arith, h))

-- what was put behind a list stands last
pub last_at : {A : Type 0} (xs : List A) (x : A) → slice_get (xs ++ x ∷ []) (length xs) ≡ Some x
last_at [] x = refl
last_at (y ∷ xs) x = last_at xs x

-- what holds of all holds of one more of which it holds
pub all_more : {A : Type 0} (P : A → Type 0) (xs : List A) (x : A) → P x → AllByRecursion P xs
    → AllByRecursion P (xs ++ x ∷ [])
all_more P [] x h g = (h, tt)
all_more P (y ∷ xs) x h g = (g.0, all_more P xs x h g.1)
