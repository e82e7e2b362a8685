-- Values that are told by their number, list after list.
use Rattle.std.proofs.Common.{◌≢◌, ◌<◌, ◌-◌, zero, suc, take, get_or, ◌≡◌, ℕ, ◌+◌, List, [], ◌∷◌, ◌++◌, length}
use Rattle.std.proofs.{Common.{length-append, map, refl, sym, ap, ◌∙◌, arith}, lemmas.Grind.{flat_map-append}}
use Rattle.std.proofs.lemmas.List.{append_assoc, append-nil, length-map, take_more}
use Rattle.std.specs.List.{flat_map}
use Rattle.sect_places.specs.declared.name_use.NameSpan.{NameSpan}
use Rattle.sect_json.specs.{Calls.{calls_at, calls_within}, Values.{by_place}}
use Rattle.serde_json.specs.{Data.{Data}, View.{view}, declared.value.Value.{Value}}

-- what the first elements give, and the next
pub flat_taken : {A B : Type 0} (of : A → List B) (xs : List A) (n : ℕ) (x : A) → n < length xs → x ≡ get_or xs n x
    → flat_map of (take (n + 1) xs) ≡ flat_map of (take n xs) ++ of x
flat_taken of xs n x within is =
    ap (flat_map of) (take_more xs n x within ∙ ap (λ y. take n xs ++ y ∷ []) (sym is))
    ∙ (flat_map-append of (take n xs) (x ∷ []) ∙ ap (λ ys. flat_map of (take n xs) ++ ys) (append-nil (of x)))

-- calls that may stand in one another
pub calls_deep : (names : List NameSpan) (scope most : ℕ) → most ≢ 0 → calls_within most names scope
    ≡ flat_map (calls_at (calls_within (most - 1) names) names scope) names
calls_deep names scope zero some = absurd (some refl)
calls_deep names scope (suc n) some =
    ap (λ k. flat_map (calls_at (calls_within k names) names scope) names) (omega arith)

module _ {A : Type 0} (of : ℕ → A → Data) where
  -- behind others
  behind : (n : ℕ) (xs ys : List A) → by_place of n (xs ++ ys) ≡ by_place of n xs ++ by_place of (n + length xs) ys
  behind n [] ys = ap (λ m. by_place of m ys) (omega arith)
  behind n (x ∷ xs) ys =
      ap (λ ds. of n x ∷ ds) (behind (n + 1) xs ys
      ∙ ap (λ m. by_place of (n + 1) xs ++ by_place of m ys) (omega arith))

  as_many : (n : ℕ) (xs : List A) → length (by_place of n xs) ≡ length xs
  as_many n [] = refl
  as_many n (x ∷ xs) = omega (arith, as_many (n + 1) xs)

  -- the first of them, and then the others
  pub told_behind : (old had more : List Value) (xs ys : List A)
      → map view had ≡ map view old ++ by_place of (length old) xs
      → map view more ≡ map view had ++ by_place of (length had) ys
      → map view more ≡ map view old ++ by_place of (length old) (xs ++ ys)
  told_behind old had more xs ys first then =
      let front = by_place of (length old) xs in
      let many : length had ≡ length old + length xs =
      omega (
        arith,
        length-map had view,
        length-map old view,
        ap length first,
        length-append (map view old) front,
        as_many (length old) xs,
      ) in
      then ∙ (ap (λ n. map view had ++ by_place of n ys) many
      ∙ (ap (λ ds. ds ++ by_place of (length old + length xs) ys) first
      ∙ (append_assoc (map view old) front _ ∙ ap (λ ds. map view old ++ ds) (sym (behind (length old) xs ys)))))
