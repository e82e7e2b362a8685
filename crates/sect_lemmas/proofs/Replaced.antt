-- Lists with one element replaced.
use Rattle.std.proofs.Common.{true≢false, ◌≡◌, ◌≢◌, ◌⊎◌, inl, inr, ℕ, zero, suc, List, [], ◌∷◌, length, map, Option}
use Rattle.std.proofs.Common.{Some, None, Bool, true, false, refl, sym, ap, ◌∙◌, subst, if◌then◌else◌, slice_get, set}
use Rattle.std.proofs.lemmas.Bool.{cases_eq}
use Rattle.sect_lemmas.specs.{Lists.{changed_at, put_at}, Numbers.{same_number}}
use Rattle.sect_lemmas.proofs.{Options.{some_injective, none_or_some, mapped}, Booleans.{either_way}}

-- the n-th element is changed, and no other
pub get-changed_at : {A : Type 0} → (n m : ℕ) (g : A → A) (xs : List A)
    → slice_get (changed_at n g xs) m ≡ if same_number n m then mapped g (slice_get xs m) else slice_get xs m
get-changed_at n m g [] = either_way (same_number n m) None
get-changed_at zero zero g (x ∷ xs) = refl
get-changed_at zero (suc m) g (x ∷ xs) = refl
get-changed_at (suc n) zero g (x ∷ xs) = refl
get-changed_at (suc n) (suc m) g (x ∷ xs) = get-changed_at n m g xs

-- what is read of a list of which one element was set is what was put there, or what stood there
pub set_cases : {A : Type 0} (xs : List A) (n : ℕ) (x : A) (i : ℕ) (y : A) → slice_get (set xs n x) i ≡ Some y
    → ((i ≡ n) × (x ≡ y)) ⊎ (slice_get xs i ≡ Some y)
set_cases [] n x i y at = inr at
set_cases (z ∷ zs) zero x zero y at = inl (refl, some_injective x y at)
set_cases (z ∷ zs) zero x (suc i) y at = inr at
set_cases (z ∷ zs) (suc n) x zero y at = inr at
set_cases (z ∷ zs) (suc n) x (suc i) y at = elim (set_cases zs n x i y at) [
  | inl e ↦ inl (ap suc e.0, e.1)
  | inr h ↦ inr h
]

-- the list stays as long
pub length-changed_at : {A : Type 0} → (n : ℕ) (g : A → A) (xs : List A) → length (changed_at n g xs) ≡ length xs
length-changed_at n g [] = refl
length-changed_at zero g (x ∷ xs) = refl
length-changed_at (suc n) g (x ∷ xs) = ap suc (length-changed_at n g xs)

-- the test of numbers says that they are equal
pub same_number-true : (n m : ℕ) → same_number n m ≡ true → n ≡ m
same_number-true zero zero e = refl
same_number-true zero (suc m) e = absurd (true≢false (sym e))
same_number-true (suc n) zero e = absurd (true≢false (sym e))
same_number-true (suc n) (suc m) e = ap suc (same_number-true n m e)

-- it holds of each number and itself
pub same_number-refl : (n : ℕ) → same_number n n ≡ true
same_number-refl zero = refl
same_number-refl (suc n) = same_number-refl n

-- so of equal ones
pub same_number-eq : (n m : ℕ) → n ≡ m → same_number n m ≡ true
same_number-eq n m e = subst (λ k. same_number n k ≡ true) e (same_number-refl n)

-- and of no two others
pub same_number-false : (n m : ℕ) → n ≢ m → same_number n m ≡ false
same_number-false n m other = by (same_number n m) refl where
  by : (b : Bool) → same_number n m ≡ b → b ≡ false
  by true is = absurd (other (same_number-true n m is))
  by false is = refl

-- the element put there
pub put_same : {A : Type 0} → (t : ℕ) (old new : A) (xs : List A) → slice_get xs t ≡ Some old
    → slice_get (put_at t new xs) t ≡ Some new
put_same t old new xs e =
    get-changed_at t t (λ old. new) xs
    ∙ ap (λ b. if b then mapped (λ old. new) (slice_get xs t) else slice_get xs t) (same_number-refl t)
    ∙ ap (mapped (λ old. new)) e

-- each other element stays
pub put_other : {A : Type 0} → (t u : ℕ) (new : A) (xs : List A) → t ≢ u
    → slice_get (put_at t new xs) u ≡ slice_get xs u
put_other t u new xs other =
    get-changed_at t u (λ old. new) xs
    ∙ ap (λ b. if b then mapped (λ old. new) (slice_get xs u) else slice_get xs u) (same_number-false t u other)

-- what holds of the new element, and of each other one, holds of each element afterwards
pub each_put : {A : Type 0} → (P : ℕ → A → Type 0) (t : ℕ) (old new : A) (xs : List A) → slice_get xs t ≡ Some old
    → P t new
    → ((u : ℕ) (x : A) → t ≢ u → slice_get xs u ≡ Some x → P u x) → (u : ℕ) (x : A)
    → slice_get (put_at t new xs) u ≡ Some x → P u x
each_put {A = A} P t old new xs is own others u x e = by (cases_eq t u) where
  by : (t ≡ u) ⊎ (t ≢ u) → P u x
  by (inl here) =
      let same : x ≡ new = some_injective x new
      (sym e ∙ ap (slice_get (put_at t new xs)) (sym here) ∙ put_same t old new xs is) in
      subst (λ (v : ℕ). P v x) here (subst (P t) (sym same) own)
  by (inr other) = others u x other (sym (put_other t u new xs other) ∙ e)

-- and what holds of each element afterwards held before, where it goes back from the new to the old
pub each_before : {A : Type 0} → (P Q : ℕ → A → Type 0) (t : ℕ) (old new : A) (xs : List A) → slice_get xs t ≡ Some old
    → ((u : ℕ) (x : A) → slice_get (put_at t new xs) u ≡ Some x → Q u x) → (Q t new → P t old)
    → ((u : ℕ) (x : A) → t ≢ u → slice_get xs u ≡ Some x → Q u x → P u x)
    → (u : ℕ) (x : A) → slice_get xs u ≡ Some x → P u x
each_before {A = A} P Q t old new xs is after own others u x e = by (cases_eq t u) where
  by : (t ≡ u) ⊎ (t ≢ u) → P u x
  by (inl here) =
      let same : x ≡ old = some_injective x old (sym e ∙ ap (slice_get xs) (sym here) ∙ is) in
      subst (λ (v : ℕ). P v x) here (subst (P t) (sym same) (own (after t new (put_same t old new xs is))))
  by (inr other) = others u x other e (after u x (put_other t u new xs other ∙ e))

-- the list stays as long
pub length-put_at : {A : Type 0} → (t : ℕ) (new : A) (xs : List A) → length (put_at t new xs) ≡ length xs
length-put_at t new xs = length-changed_at t (λ old. new) xs

-- what stands at a place after one element is replaced: the new one, or what stood there
pub at-put_at : {A : Type 0} → (n m : ℕ) (y x : A) (xs : List A) → slice_get (put_at n y xs) m ≡ Some x
    → ((n ≡ m) × (y ≡ x)) ⊎ ((n ≢ m) × (slice_get xs m ≡ Some x))
at-put_at {A = A} n m y x xs e =
    by (same_number n m) refl (slice_get xs m) refl (sym (get-changed_at n m (λ old. y) xs) ∙ e) where
      apart : same_number n m ≡ false → n ≢ m
      apart is same = true≢false (sym (same_number-eq n m same) ∙ is)

      by : (b : Bool) → same_number n m ≡ b → (o : Option A) → slice_get xs m ≡ o
          → (if b then mapped (λ old. y) o else o) ≡ Some x
          → ((n ≡ m) × (y ≡ x)) ⊎ ((n ≢ m) × (slice_get xs m ≡ Some x))
      by true is None at e' = absurd (none_or_some x e')
      by true is (Some z) at e' = inl (same_number-true n m is, some_injective y x e')
      by false is o at e' = inr (apart is, at ∙ e')

-- an element of a mapped list comes from one of the list
pub slice_get-map : {A B : Type 0} → (g : A → B) (xs : List A) (n : ℕ) (y : B) → slice_get (map g xs) n ≡ Some y
    → (x : A) × (slice_get xs n ≡ Some x) × (g x ≡ y)
slice_get-map g [] n y e = absurd (none_or_some y e)
slice_get-map g (x ∷ xs) zero y e = (x, refl, some_injective (g x) y e)
slice_get-map g (x ∷ xs) (suc n) y e = slice_get-map g xs n y e

-- what is made of an element stands at its place in the mapped list
pub at_map : {A B : Type 0} (g : A → B) (xs : List A) (n : ℕ) (x : A) → slice_get xs n ≡ Some x
    → slice_get (map g xs) n ≡ Some (g x)
at_map g [] n x at = absurd (none_or_some x at)
at_map g (y ∷ xs) zero x at = ap (λ z. Some (g z)) (some_injective y x at)
at_map g (y ∷ xs) (suc n) x at = at_map g xs n x at

-- an element put in a list, and what is made of it put in the mapped list
pub map_put : {A B : Type 0} (g : A → B) (n : ℕ) (x : A) (xs : List A)
    → map g (put_at n x xs) ≡ put_at n (g x) (map g xs)
map_put g n x [] = refl
map_put g zero x (y ∷ xs) = refl
map_put g (suc n) x (y ∷ xs) = ap (λ ys. g y ∷ ys) (map_put g n x xs)
