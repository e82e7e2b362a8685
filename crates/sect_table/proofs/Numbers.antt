-- The numbers of keys.
use Rattle.std.proofs.Common.{◌≡◌, ℕ, zero, suc, ◌+◌, ◌≤◌, List, [], ◌∷◌, length, Bool, true, false, Some, None, refl, sym}
use Rattle.std.proofs.{Common.{◌∙◌, ap, arith, rules, slice_get}, lemmas.List.Recursion.{is_position_or_len}}
use Rattle.std.proofs.lemmas.{Option.{slice_get_within}, Map.Keys.{IsDistinct-head, IsDistinct-tail}}
use Rattle.std.specs.{Prelude.{if◌then◌else◌, nat_lt}, List.{position, position_or_len, list_any}}
use Rattle.std.specs.List.{AllByRecursion, IsDistinct}
use Rattle.sect_modes.proofs.shared.Keys.{key_itself, other_key}
use Rattle.sect_modes.specs.{declared.key.Key.{Key}, declared.key.Key.TheVariants.{All, Class, Global, Made}}
use Rattle.sect_modes.specs.{Key.{is_same_key}, contracts.key.KeyPartialEq.TheImpl.{eq-value}}
use Rattle.sect_table.specs.steps.Keys.{place_in}

-- the derived comparison of keys
key_eq-same : (a b : Key) → eq-value.it a b ≡ is_same_key a b
key_eq-same (Class a) (Class b) = search rules
key_eq-same (Global a) (Global b) = search rules
key_eq-same (Made t n) (Made u m) = search rules
key_eq-same All All = refl
key_eq-same All (Class _) = refl
key_eq-same All (Global _) = refl
key_eq-same All (Made _ _) = refl
key_eq-same (Class _) All = refl
key_eq-same (Global _) All = refl
key_eq-same (Made _ _) All = refl
key_eq-same (Class _) (Global _) = refl
key_eq-same (Class _) (Made _ _) = refl
key_eq-same (Global _) (Class _) = refl
key_eq-same (Global _) (Made _ _) = refl
key_eq-same (Made _ _) (Class _) = refl
key_eq-same (Made _ _) (Global _) = refl

pub place_in-le : (k : Key) (xs : List Key) → place_in k xs ≤ length xs
place_in-le k [] = omega arith
place_in-le k (x ∷ xs) = elim (is_same_key k x) as (λ b. (if b then 0 else suc (place_in k xs)) ≤ suc (length xs)) [
  | true ↦ omega arith
  | false ↦ let below = place_in-le k xs in omega arith
]

place_in-position : (k : Key) (xs : List Key) → place_in k xs ≡ position_or_len (eq-value.it k) xs
place_in-position k xs = is_position_or_len (place_in k) (eq-value.it k) refl
    (λ x ys. step x ys (is_same_key k x) (key_eq-same k x)) xs
  where
    step : (x : Key) (ys : List Key) (b : Bool) → eq-value.it k x ≡ b
        → (if b then 0 else suc (place_in k ys)) ≡ (if eq-value.it k x then 0 else (1 + place_in k ys))
    step x ys true e = sym (ap (λ z. if z then 0 else (1 + place_in k ys)) e)
    step x ys false e = let n : suc (place_in k ys) ≡ 1 + place_in k ys = omega arith in
        n ∙ sym (ap (λ z. if z then 0 else (1 + place_in k ys)) e)

pub found_place : (k : Key) (xs : List Key) (n : ℕ) → Some n ≡ position (eq-value.it k) xs → n ≡ place_in k xs
found_place k xs n is = go (nat_lt (position_or_len (eq-value.it k) xs) (length xs)) is ∙ sym (place_in-position k xs)
  where
    go : (b : Bool) → Some n ≡ (if b then Some (position_or_len (eq-value.it k) xs) else None)
        → n ≡ position_or_len (eq-value.it k) xs
    go true e = cc
    go false e = cc

pub no_place : (k : Key) (xs : List Key) → None ≡ position (eq-value.it k) xs → place_in k xs ≡ length xs
no_place k xs is =
    let past : length xs ≤ position_or_len (eq-value.it k) xs =
    go (nat_lt (position_or_len (eq-value.it k) xs) (length xs)) refl is in
    let same = place_in-position k xs in
    let within = place_in-le k xs in
    omega arith
  where
    go : (b : Bool) → nat_lt (position_or_len (eq-value.it k) xs) (length xs) ≡ b
        → None ≡ (if b then Some (position_or_len (eq-value.it k) xs) else None)
        → length xs ≤ position_or_len (eq-value.it k) xs
    go true t e = cc
    go false t e = grind arith

pub none_has : (k : Key) (xs : List Key) → place_in k xs ≡ length xs → list_any (eq-value.it k) xs ≡ false
none_has k [] is = refl
none_has k (x ∷ xs) is = go (is_same_key k x) (key_eq-same k x) is (λ p. none_has k xs p)
  where
    go : (b : Bool) → eq-value.it k x ≡ b → (if b then 0 else suc (place_in k xs)) ≡ suc (length xs)
        → (place_in k xs ≡ length xs → list_any (eq-value.it k) xs ≡ false) → list_any (eq-value.it k) (x ∷ xs) ≡ false
    go true e p rest = absurd (omega arith)
    go false e p rest = let later = rest (omega arith) in simp (e, later)

-- a key that differs from all of these isn't the one that stands at a place among them
apart_from : (k x : Key) (xs : List Key) (n : ℕ) → AllByRecursion (λ y. eq-value.it x y ≡ false) xs
    → slice_get xs n ≡ Some k → is_same_key k x ≡ false
apart_from k x [] n apart is = let lt = slice_get_within [] n k is in absurd (omega arith)
apart_from k x (y ∷ ys) zero apart is =
    let e : y ≡ k = cc in
    other_key x k (ap (is_same_key x) (sym e) ∙ (sym (key_eq-same x y) ∙ apart.0))
apart_from k x (y ∷ ys) (suc n) apart is = apart_from k x ys n apart.1 is

-- where each key stands once, its place is its number
pub distinct_place : (k : Key) (xs : List Key) (n : ℕ) → IsDistinct eq-value.it xs → slice_get xs n ≡ Some k
    → n ≡ place_in k xs
distinct_place k [] n distinct is = let lt = slice_get_within [] n k is in absurd (omega arith)
distinct_place k (x ∷ xs) zero distinct is =
    let e : x ≡ k = cc in
    sym (ap (λ b. if b then 0 else suc (place_in k xs)) (ap (is_same_key k) e ∙ key_itself k))
distinct_place k (x ∷ xs) (suc n) distinct is =
    ap suc (distinct_place k xs n (IsDistinct-tail eq-value.it x xs distinct) is)
    ∙ sym (ap (λ b. if b then 0 else suc (place_in k xs))
    (apart_from k x xs n (IsDistinct-head eq-value.it x xs distinct) is))
