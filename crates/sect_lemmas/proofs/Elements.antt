-- The elements of lists, by their places.
use Rattle.std.proofs.Common.{◌≡◌, refl, sym, subst, List, [], ◌∷◌, ◌++◌, length, Some, None, ℕ, zero, suc, ◌<◌, take}
use Rattle.std.proofs.Common.{slice_get, if◌then◌else◌, arith, ◌+◌, drop, get_or, ap, add-one, replicate, ◌∙◌}
use Rattle.std.proofs.Math.Seq.{drop-cons}
use Rattle.sect_lemmas.specs.Numbers.{same_number}
use Rattle.sect_lemmas.proofs.Options.{IsThere}
use Rattle.std.specs.Prelude.{slice_index_or}

-- below the length something is there
pub is_there : {A : Type 0} → (xs : List A) (i : ℕ) → i < length xs → slice_get xs i ≡ None → ⊥
is_there [] i le e = absurd (omega (arith, le))
is_there (x ∷ xs) zero le e = subst IsThere e tt
is_there (x ∷ xs) (suc i) le e = is_there xs i (omega (arith, le)) e

-- at the length there is nothing
pub is_past : {A : Type 0} → (xs : List A) → slice_get xs (length xs) ≡ None
is_past [] = refl
is_past (x ∷ xs) = is_past xs

-- the element at the end
pub get-last : {A : Type 0} → (xs : List A) (x : A) (j : ℕ)
    → slice_get (xs ++ x ∷ []) j ≡ if same_number (length xs) j then Some x else slice_get xs j
get-last [] x zero = refl
get-last [] x (suc j) = refl
get-last (y ∷ xs) x zero = refl
get-last (y ∷ xs) x (suc j) = get-last xs x j

-- lists that agree at each index are one
pub same_elements : {A : Type 0} → (xs ys : List A) → ((i : ℕ) → slice_get xs i ≡ slice_get ys i) → xs ≡ ys
same_elements [] [] h = refl
same_elements [] (y ∷ ys) h = absurd (subst IsThere (sym (h 0)) tt)
same_elements (x ∷ xs) [] h = absurd (subst IsThere (h 0) tt)
same_elements {A = A} (x ∷ xs) (y ∷ ys) h = both x y (h 0) (same_elements xs ys (λ i. h (suc i))) where
  both : (a b : A) → Some a ≡ Some b → xs ≡ ys → (a ∷ xs) ≡ (b ∷ ys)
  both a b e r = let q : a ≡ b = cc in cc

-- the element at an index comes first of those that are left
pub drop_next : {A : Type 0} (xs : List A) (i : ℕ) (x : A) → i < length xs → x ≡ get_or xs i x
    → drop i xs ≡ x ∷ drop (i + 1) xs
drop_next xs i x h e = rw (add-one, drop-cons xs i x) (ap (λ y. y ∷ drop (suc i) xs) (sym e))

-- one empty list more
pub empty_more : {X : Type 0} (xs : List (List X)) (m : ℕ) → ((m : ℕ) → slice_index_or xs m [] ≡ [])
    → slice_index_or (xs ++ [] ∷ []) m [] ≡ []
empty_more [] zero h = refl
empty_more [] (suc m) h = refl
empty_more (x ∷ xs) zero h = h 0
empty_more (x ∷ xs) (suc m) h = empty_more xs m (λ n. h (suc n))

-- what stands in the first of two lists
pub slice_get-left : {A : Type 0} (xs ys : List A) (j : ℕ) (x : A) → slice_get xs j ≡ Some x
    → slice_get (xs ++ ys) j ≡ Some x
slice_get-left [] ys j x e = absurd cc
slice_get-left (y ∷ xs) ys zero x e = e
slice_get-left (y ∷ xs) ys (suc j) x e = slice_get-left xs ys j x e

-- what stands in the second of two lists
pub slice_get-right : {A : Type 0} (xs ys : List A) (j : ℕ) (x : A) → slice_get ys j ≡ Some x
    → slice_get (xs ++ ys) (length xs + j) ≡ Some x
slice_get-right [] ys j x e = let z : j ≡ 0 + j = omega arith in subst (λ k. slice_get ys k ≡ Some x) z e
slice_get-right (y ∷ xs) ys j x e =
    let z : suc (length xs + j) ≡ length (y ∷ xs) + j = omega arith in
    subst (λ k. slice_get (y ∷ (xs ++ ys)) k ≡ Some x) z (slice_get-right xs ys j x e)

-- what two lists have at a place of the first stands in the first
pub get_front : {A : Type 0} (xs ys : List A) (i : ℕ) (x : A) → i < length xs → slice_get (xs ++ ys) i ≡ Some x
    → slice_get xs i ≡ Some x
get_front [] ys i x within at = absurd (omega (arith, within))
get_front (y ∷ xs) ys zero x within at = at
get_front (y ∷ xs) ys (suc i) x within at = get_front xs ys i x (omega (arith, within)) at

-- what stands at a place of the first so many
pub taken : {A : Type 0} (xs : List A) (n i : ℕ) → i < n → slice_get (take n xs) i ≡ slice_get xs i
taken xs zero i h = absurd (omega (arith, h))
taken [] (suc n) i h = refl
taken (x ∷ xs) (suc n) zero h = refl
taken (x ∷ xs) (suc n) (suc i) h = taken xs n i (omega (arith, h))

-- lists of one length that have the same at each place are one
pub same_by_place : {A : Type 0} (xs ys : List A) → length xs ≡ length ys
    → ((i : ℕ) (x y : A) → slice_get xs i ≡ Some x → slice_get ys i ≡ Some y → x ≡ y) → xs ≡ ys
same_by_place [] [] e same = refl
same_by_place [] (y ∷ ys) e same = absurd (omega (arith, e))
same_by_place (x ∷ xs) [] e same = absurd (omega (arith, e))
same_by_place (x ∷ xs) (y ∷ ys) e same = ap (λ z. z ∷ xs) (same 0 x y refl refl)
    ∙ ap (λ l. y ∷ l) (same_by_place xs ys (omega (arith, e)) (λ i. same (suc i)))

-- the row of a table and what stands there in it
pub row_there : {A : Type 0} (rows : List (List A)) (i n : ℕ) (x : A)
    → slice_get (slice_index_or rows i []) n ≡ Some x
    → (row : List A) × (slice_get rows i ≡ Some row) × (slice_get row n ≡ Some x)
row_there [] i n x e = absurd cc
row_there (row ∷ rows) zero n x e = (row, refl, e)
row_there (row ∷ rows) (suc i) n x e = row_there rows i n x e

-- a list that repeats one element has it at each place, and so it is read behind the end too
pub repeated : {A : Type 0} (k n : ℕ) (x : A) → get_or (replicate k x) n x ≡ x
repeated zero n x = refl
repeated (suc k) zero x = refl
repeated (suc k) (suc n) x = repeated k n x

-- what is left of a list from a place on begins with what stands there
pub at_front : {A : Type 0} (xs : List A) (n : ℕ) (x : A) (rest : List A) → drop n xs ≡ x ∷ rest
    → slice_get xs n ≡ Some x
at_front [] zero x rest e = absurd cc
at_front [] (suc n) x rest e = absurd cc
at_front (y ∷ xs) zero x rest e = let same : y ≡ x = cc in ap (λ z. Some z) same
at_front (y ∷ xs) (suc n) x rest e = at_front xs n x rest e
