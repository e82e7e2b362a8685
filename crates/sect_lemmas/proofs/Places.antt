-- Elements of lists and the places where they stand.
use Rattle.std.proofs.Common.{◌≡◌, ◌⊎◌, ◌∙◌, ℕ, zero, suc, ◌+◌, ◌<◌, List, [], ◌∷◌, ◌++◌, length, length-append, take}
use Rattle.std.proofs.Common.{get_or, Option, Some, None, refl, sym, ap, subst, inl, inr, arith, Bool, true}
use Rattle.std.proofs.{lemmas.List.{take_more}, lemmas.Slice.Zip.{all_zipped_more}, lemmas.Bool.{and_parts, and_from}}
use Rattle.std.specs.{Prelude.{slice_get, option_map}, List.{AllZip, AllByRecursion, list_all}}
use Rattle.sect_lemmas.specs.Lists.{Has}
use Rattle.sect_lemmas.proofs.Options.{some_injective, none_or_some}

-- what a list has stands at some place
pub Has-index : {X : Type 0} (xs : List X) (x : X) → Has xs x → (i : ℕ) × (slice_get xs i ≡ Some x)
Has-index [] x h = absurd h
Has-index (y ∷ xs) x h = elim h
    [ inl e ↦ (0, ap (λ z. Some z) e) | inr k ↦ (let r = Has-index xs x k in (suc r.0, r.1)) ]

-- what stands at a place
pub at_of : {X : Type 0} (xs : List X) (i : ℕ) → i < length xs → (x : X) × (slice_get xs i ≡ Some x)
at_of [] i h = absurd (omega (arith, h))
at_of (x ∷ xs) zero h = (x, refl)
at_of (x ∷ xs) (suc i) h = at_of xs i (omega (arith, h))

-- one thing alone stands at a place
pub one_at : {X : Type 0} (xs : List X) (i : ℕ) (x y : X) → slice_get xs i ≡ Some x → slice_get xs i ≡ Some y → x ≡ y
one_at xs i x y a b = let e : x ≡ y = cc in e

-- the element of which a list tells something
pub told_at : {X Y : Type 0} (f : X → Y) (xs : List X) (j : ℕ) (v : Y) → option_map f (slice_get xs j) ≡ Some v
    → (x : X) × (slice_get xs j ≡ Some x) × (f x ≡ v)
told_at {X} f xs j v e = go (slice_get xs j) refl e
  where
    go : (o : Option X) → slice_get xs j ≡ o → option_map f o ≡ Some v → (x : X) × (slice_get xs j ≡ Some x) × (f x ≡ v)
    go None at e = absurd cc
    go (Some x) at e = (x, at, let q : f x ≡ v = cc in q)

-- it tells so of that element
pub told_of : {X Y : Type 0} (f : X → Y) (xs : List X) (j : ℕ) (v : Y) → option_map f (slice_get xs j) ≡ Some v
    → (x : X) → slice_get xs j ≡ Some x → f x ≡ v
told_of f xs j v e x at = let r = told_at f xs j v e in ap f (one_at xs j x r.0 at r.1) ∙ r.2

-- what stands in a list with one element more is that one or stood there before
pub pushed_at : {X : Type 0} (xs : List X) (y x : X) (i : ℕ) → slice_get (xs ++ y ∷ []) i ≡ Some x
    → ((i ≡ length xs) × (y ≡ x)) ⊎ (slice_get xs i ≡ Some x)
pushed_at [] y x zero at = inl (refl, cc)
pushed_at [] y x (suc i) at = absurd cc
pushed_at (z ∷ xs) y x zero at = inr at
pushed_at (z ∷ xs) y x (suc i) at =
    elim (pushed_at xs y x i at) [ inl a ↦ inl (omega (arith, a.0), a.1) | inr b ↦ inr b ]

-- one pair more
pub zip_more : {A B : Type 0} (R : A → B → Type 0) (xs : List A) (i : ℕ) (x : A) (ys : List B) (y : B) → i < length xs
    → x ≡ get_or xs i x → AllZip R (take i xs) ys → R x y → AllZip R (take (i + 1) xs) (ys ++ y ∷ [])
zip_more R xs i x ys y within is before here =
    let next : take (i + 1) xs ≡ take i xs ++ x ∷ [] = take_more xs i x within
    ∙ ap (λ z. take i xs ++ z ∷ []) (sym is) in
    subst (λ zs. AllZip R zs (ys ++ y ∷ [])) (sym next) (all_zipped_more R (take i xs) ys x y before here)

-- an element of the second of two lists has one of the first at its place
pub zipped_at : {A B : Type 0} (R : A → B → Type 0) (xs : List A) (ys : List B) → AllZip R xs ys → (i : ℕ) (y : B)
    → slice_get ys i ≡ Some y → (x : A) × (slice_get xs i ≡ Some x) × R x y
zipped_at R [] [] h i y at = absurd cc
zipped_at R [] (z ∷ ys) h i y at = absurd h
zipped_at R (x ∷ xs) [] h i y at = absurd h
zipped_at R (x ∷ xs) (z ∷ ys) h zero y at = let same : z ≡ y = cc in (x, refl, subst (R x) same h.0)
zipped_at R (x ∷ xs) (z ∷ ys) h (suc i) y at = zipped_at R xs ys h.1 i y at

-- what holds of all holds at each place
pub each_at : {A : Type 0} (P : A → Type 0) (xs : List A) → AllByRecursion P xs → (i : ℕ) (x : A)
    → slice_get xs i ≡ Some x → P x
each_at P [] h i x at = absurd cc
each_at P (y ∷ xs) h zero x at = let same : y ≡ x = cc in subst P same h.0
each_at P (y ∷ xs) h (suc i) x at = each_at P xs h.1 i x at

-- where each of so many numbers has something, a list has one for each
pub chosen : {X : Type 0} (P : ℕ → X → Type 0) (n : ℕ) → ((i : ℕ) → i < n → (x : X) × P i x)
    → (xs : List X) × (length xs ≡ n) × ((i : ℕ) (x : X) → slice_get xs i ≡ Some x → P i x)
chosen P zero each = ([], refl, λ i x at. absurd cc)
chosen P (suc n) each =
    let before = chosen P n (λ i lt. each i (omega (arith, lt))) in
    let here = each n (omega arith) in
    let count = before.1 in (
      before.0 ++ here.0 ∷ [],
      omega (arith, count, length-append before.0 (here.0 ∷ [])),
      λ i x at. elim (pushed_at before.0 here.0 x i at) [
        | inl e ↦ subst (P i) e.1 (subst (λ m. P m here.0) (sym (e.0 ∙ count)) here.1)
        | inr h ↦ before.2 i x h
      ],
    )

-- what all of a list pass, each of it passes
pub each_passes : {X : Type 0} (test : X → Bool) (xs : List X) → list_all test xs ≡ true → (i : ℕ) (x : X)
    → slice_get xs i ≡ Some x → test x ≡ true
each_passes test [] all i x at = absurd (none_or_some x at)
each_passes test (y ∷ xs) all zero x at =
    subst (λ z. test z ≡ true) (some_injective y x at) (and_parts (test y) (list_all test xs) all).0
each_passes test (y ∷ xs) all (suc i) x at = each_passes test xs (and_parts (test y) (list_all test xs) all).1 i x at

-- and the other way round
pub all_pass : {X : Type 0} (test : X → Bool) (xs : List X)
    → ((i : ℕ) (x : X) → slice_get xs i ≡ Some x → test x ≡ true) → list_all test xs ≡ true
all_pass test [] each = refl
all_pass test (y ∷ xs) each = and_from (test y) (list_all test xs) (each 0 y refl)
    (all_pass test xs (λ i. each (suc i)))
