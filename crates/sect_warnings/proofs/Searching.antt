-- Looking through a list, element by element, for one of which something holds.
use Rattle.std.proofs.Common.{◌≡◌, ◌<◌, ◌↔◌, ℕ, zero, suc, List, [], ◌∷◌, Option, Some, None, true, length, drop, ap}
use Rattle.std.proofs.{Common.{subst, inl, inr, arith}, Math.Dec.{eqb}, lemmas.Bool.{eqb-true, eq-eqb}}
use Rattle.std.specs.{Option.{option_eq}, Prelude.{slice_get}}
use Rattle.sect_lemmas.specs.Lists.{Has}

-- of some element it holds
abbrev pub HasSome : {X : Type 0} → (X → Type 0) → List X → Type 0
HasSome {X} P xs = (x : X) × Has xs x × P x

-- where one is left, the place is one of the list
pub place_within : {X : Type 0} (P : X → Type 0) (xs : List X) (k : ℕ) → HasSome P (drop k xs) → k < length xs
place_within P [] zero (x, has, holds) = absurd has
place_within P [] (suc k) (x, has, holds) = absurd has
place_within P (y ∷ xs) zero some = omega arith
place_within P (y ∷ xs) (suc k) some = let lt = place_within P xs k some in omega (arith, lt)

-- where it doesn't hold of the element there, one is left behind it
pub some_behind : {X : Type 0} (P : X → Type 0) (xs : List X) (k : ℕ) (y : X) → slice_get xs k ≡ Some y
    → (P y → ⊥) → HasSome P (drop k xs) → HasSome P (drop (suc k) xs)
some_behind P [] zero y at not (x, has, holds) = absurd has
some_behind P [] (suc k) y at not (x, has, holds) = absurd has
some_behind P (z ∷ xs) zero y at not (x, inl same, holds) =
    absurd (not (let one : x ≡ y = cc in subst P one holds))
some_behind P (z ∷ xs) zero y at not (x, inr has, holds) = (x, has, holds)
some_behind P (z ∷ xs) (suc k) y at not some = some_behind P xs k y at not some

-- an option that is compared with a number has it where they are equal
pub option_is : (o : Option ℕ) (n : ℕ) → (option_eq eqb o (Some n) ≡ true) ↔ (o ≡ Some n)
option_is None n = (λ t. absurd cc, λ e. absurd cc)
option_is (Some m) n = (λ t. ap (λ x. Some x) (eqb-true m n t), λ e. eq-eqb m n cc)
