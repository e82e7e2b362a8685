-- Values without floats.
use Rattle.std.proofs.{Common.{◌≡◌, ℕ, ◌+◌, List, [], ◌∷◌, ◌++◌, map, false, refl}, lemmas.Bool.{or_from, or_parts}}
use Rattle.std.specs.{Prelude.{ℤ, pos, negsuc}, List.{flat_map}}
use Rattle.serde_json.specs.{Data.{Data}, View.{items_of}, Written.{has_float, items_have_float}}
use Rattle.sect_json.specs.Values.{integer, by_place, all_by_place}

-- the value has none
abbrev pub IsPlain : Data → Type 0
IsPlain value = has_float value ≡ false

abbrev pub ArePlain : List Data → Type 0
ArePlain values = items_have_float (items_of values) ≡ false

pub plain_map : {A : Type 0} (of : A → Data) → ((x : A) → IsPlain (of x)) → (xs : List A) → ArePlain (map of xs)
plain_map of each [] = refl
plain_map of each (x ∷ xs) = or_from _ _ (each x) (plain_map of each xs)

pub plain_by_place : {A : Type 0} (of : ℕ → A → Data) → ((n : ℕ) (x : A) → IsPlain (of n x)) → (n : ℕ) (xs : List A)
    → ArePlain (by_place of n xs)
plain_by_place of each n [] = refl
plain_by_place of each n (x ∷ xs) = or_from _ _ (each n x) (plain_by_place of each (n + 1) xs)

pub plain_append : (xs ys : List Data) → ArePlain xs → ArePlain ys → ArePlain (xs ++ ys)
plain_append [] ys p q = q
plain_append (x ∷ xs) ys p q = let h = or_parts _ _ p in or_from _ _ h.0 (plain_append xs ys h.1 q)

pub plain_all_by_place : {A : Type 0} (of : ℕ → A → List Data) → ((n : ℕ) (x : A) → ArePlain (of n x)) → (n : ℕ)
    (xs : List A) → ArePlain (all_by_place of n xs)
plain_all_by_place of each n [] = refl
plain_all_by_place of each n (x ∷ xs) =
    plain_append (of n x) (all_by_place of (n + 1) xs) (each n x) (plain_all_by_place of each (n + 1) xs)

pub plain_flat : {A : Type 0} (of : A → List Data) → ((x : A) → ArePlain (of x)) → (xs : List A)
    → ArePlain (flat_map of xs)
plain_flat of each [] = refl
plain_flat of each (x ∷ xs) = plain_append (of x) (flat_map of xs) (each x) (plain_flat of each xs)

pub plain_integer : (n : ℤ) → IsPlain (integer n)
plain_integer (pos n) = refl
plain_integer (negsuc n) = refl
