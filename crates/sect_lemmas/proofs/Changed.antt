-- Lists with one element changed.
use Rattle.std.proofs.Common.{◌≡◌, ◌<◌, ◌≤◌, ℕ, zero, suc, List, [], ◌∷◌, Some, true, false, true≢false, refl, ap, sym}
use Rattle.std.proofs.Common.{arith, length, slice_get, slice_set, slice_index_or}
use Rattle.sect_lemmas.specs.Lists.{changed_at, put_at}

-- an element that is set is put there
pub set_put : {A : Type 0} → (n : ℕ) (x : A) (xs : List A) → slice_set xs n x ≡ put_at n x xs
set_put zero x [] = refl
set_put (suc n) x [] = refl
set_put zero x (y ∷ xs) = refl
set_put (suc n) x (y ∷ xs) = ap (λ zs. y ∷ zs) (set_put n x xs)

-- an element is set to what a function gives of it
pub set_changed : {A : Type 0} → (n : ℕ) (x : A) (g : A → A) (xs : List A) → x ≡ slice_index_or xs n x
    → slice_set xs n (g x) ≡ changed_at n g xs
set_changed zero x g [] e = refl
set_changed (suc n) x g [] e = refl
set_changed {A = A} zero x g (y ∷ xs) e = ap (λ (z : A). g z ∷ xs) e
set_changed (suc n) x g (y ∷ xs) e = ap (λ zs. y ∷ zs) (set_changed n x g xs e)

-- past the end nothing is changed
pub changed_past : {A : Type 0} → (n : ℕ) (g : A → A) (xs : List A) → length xs ≤ n → changed_at n g xs ≡ xs
changed_past n g [] le = refl
changed_past zero g (y ∷ xs) le = absurd (omega (arith, le))
changed_past (suc n) g (y ∷ xs) le = ap (λ zs. y ∷ zs) (changed_past n g xs (omega (arith, le)))

-- what is read below the length is there
pub get_there : {A : Type 0} → (n : ℕ) (x : A) (xs : List A) → n < length xs → x ≡ slice_index_or xs n x
    → slice_get xs n ≡ Some x
get_there n x [] le e = absurd (omega (arith, le))
get_there zero x (y ∷ xs) le e = ap Some (sym e)
get_there (suc n) x (y ∷ xs) le e = get_there n x xs (omega (arith, le)) e

-- what isn't below is past
pub not_below : (n m : ℕ) → (n < m → false ≡ true) → m ≤ n
not_below n m h = let no : n < m → 1 ≤ 0 = λ p. absurd (true≢false (sym (h p))) in grind (arith, no)

-- what is read past the end is the default
pub or_past : {A : Type 0} → (n : ℕ) (d : A) (xs : List A) → length xs ≤ n → d ≡ slice_index_or xs n d
or_past n d [] le = refl
or_past zero d (x ∷ xs) le = absurd (omega (arith, le))
or_past (suc n) d (x ∷ xs) le = or_past n d xs (omega (arith, le))
