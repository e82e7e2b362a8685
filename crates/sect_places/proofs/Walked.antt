-- Loops that add what the parts of a list give, one part after another.
use Rattle.std.proofs.Common.{◌≡◌, ℕ, ◌+◌, ◌<◌, ◌≤◌, List, [], ◌∷◌, ◌++◌, length, get_or, drop, refl, sym}
use Rattle.std.proofs.{Common.{◌∙◌, ap, arith}, lemmas.List.{drop_all}}
use Rattle.sect_lemmas.proofs.Elements.{drop_next}
use Rattle.sect_places.specs.steps.Adding.{Adds}

-- how what a list gives is made of what its parts give, and how many numbers it takes
pub record IsList {X A : Type 0} (size : X → ℕ) (total : List X → ℕ) (each : ℕ → X → List A → List A)
    (all : ℕ → List X → List A → List A) : Type 0 where
  pub none : total [] ≡ 0
  pub more : (x : X) (xs : List X) → total (x ∷ xs) ≡ size x + total xs
  pub nothing : (n : ℕ) (w : List A) → all n [] w ≡ w
  pub step : (n : ℕ) (x : X) (xs : List X) (w : List A) → all n (x ∷ xs) w ≡ each n x (all (n + size x) xs w)

-- what the first i parts give has gone by, and `at` is the next number; `behind` says what comes of a state and of what
-- goes by then
pub record WalkedBy {S X A : Type 0} (behind : S → List A → S) (total : List X → ℕ)
    (all : ℕ → List X → List A → List A) (xs : List X) (i from at : ℕ) (old now : S) : Type 0 where
  pub counted : at + total (drop i xs) ≡ from + total xs
  pub added : (w : List A) → behind now (all at (drop i xs) w) ≡ behind old (all from xs w)

-- what the first i parts give has been added, and `at` is the next number
pub record Walked {X A : Type 0} (total : List X → ℕ) (all : ℕ → List X → List A → List A)
    (xs : List X) (i from at : ℕ) (old now : List A) : Type 0 where
  pub counted : at + total (drop i xs) ≡ from + total xs
  pub added : (w : List A) → now ++ all at (drop i xs) w ≡ old ++ all from xs w

pub walked_none : {X A : Type 0} (total : List X → ℕ) (all : ℕ → List X → List A → List A)
    (xs : List X) (at : ℕ) (old : List A) → Walked total all xs 0 at at old old
walked_none total all xs at old = record { counted = refl; added = λ w. refl }

pub walked_room : {X A : Type 0} (size : X → ℕ) (total : List X → ℕ) (each : ℕ → X → List A → List A)
    (all : ℕ → List X → List A → List A) → IsList size total each all
    → (xs : List X) (i from at : ℕ) (old now : List A) (x : X) (most : ℕ)
    → Walked total all xs i from at old now → i < length xs → x ≡ get_or xs i x → from + total xs < most
    → at + size x < most
walked_room size total each all is xs i from at old now x most h lt e fits =
    omega (arith, h.counted, ap total (drop_next xs i x lt e), is.more x (drop (i + 1) xs), fits)

pub walked_more : {X A : Type 0} (size : X → ℕ) (total : List X → ℕ) (each : ℕ → X → List A → List A)
    (all : ℕ → List X → List A → List A) → IsList size total each all
    → (xs : List X) (i from at next : ℕ) (old now new : List A) (x : X)
    → Walked total all xs i from at old now → i < length xs → x ≡ get_or xs i x
    → next ≡ at + size x → Adds now new (each at x) → Walked total all xs (i + 1) from next old new
walked_more size total each all is xs i from at next old now new x h lt e sum adds = record {
  counted = omega (arith, h.counted, ap total (drop_next xs i x lt e), is.more x (drop (i + 1) xs), sum);
  added = λ w. ap (λ n. new ++ all n (drop (i + 1) xs) w) sum
      ∙ (adds (all (at + size x) (drop (i + 1) xs) w)
      ∙ (ap (λ r. now ++ r) (sym (is.step at x (drop (i + 1) xs) w))
      ∙ (ap (λ ys. now ++ all at ys w) (sym (drop_next xs i x lt e)) ∙ h.added w)));
}

pub walked_count : {X A : Type 0} (size : X → ℕ) (total : List X → ℕ) (each : ℕ → X → List A → List A)
    (all : ℕ → List X → List A → List A) → IsList size total each all
    → (xs : List X) (i from at : ℕ) (old now : List A)
    → Walked total all xs i from at old now → length xs ≤ i → at ≡ from + total xs
walked_count size total each all is xs i from at old now h end =
    omega (arith, h.counted, ap total (drop_all i xs end), is.none)

pub walked_all : {X A : Type 0} (size : X → ℕ) (total : List X → ℕ) (each : ℕ → X → List A → List A)
    (all : ℕ → List X → List A → List A) → IsList size total each all
    → (xs : List X) (i from at : ℕ) (old now : List A)
    → Walked total all xs i from at old now → length xs ≤ i → Adds old now (all from xs)
walked_all size total each all is xs i from at old now h end = λ w.
    ap (λ r. now ++ r) (sym (is.nothing at w))
    ∙ (ap (λ ys. now ++ all at ys w) (sym (drop_all i xs end)) ∙ h.added w)
