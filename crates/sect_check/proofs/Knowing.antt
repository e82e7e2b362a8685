-- What is known of the elements of two lists at one place.
use Rattle.std.proofs.Common.{ℕ, ◌<◌, ◌-◌, ◌≡◌, ◌∙◌, List, Some, take, subst, arith}
use Rattle.std.specs.{Prelude.{slice_get}, List.{AllZip}}
use Rattle.sect_lemmas.proofs.{Places.{zipped_at, one_at}, Elements.{taken}}

module _ {A B : Type 0} (R : A → B → Type 0) where
  -- elements at one place of related lists are related
  pub known_at : (xs : List A) (ys : List B) (i : ℕ) (x : A) (y : B) → AllZip R xs ys → slice_get xs i ≡ Some x
      → slice_get ys i ≡ Some y → R x y
  known_at xs ys i x y all at there =
      let z = zipped_at R xs ys all i y there in
      subst (λ w. R w y) (one_at xs i z.0 x z.1 at) z.2

  -- so are the last ones, where the second list is as long as what is taken of the first
  pub known_last : (xs : List A) (n : ℕ) (ys : List B) (x : A) (y : B) → 0 < n → AllZip R (take n xs) ys
      → slice_get xs (n - 1) ≡ Some x → slice_get ys (n - 1) ≡ Some y → R x y
  known_last xs n ys x y some all at there =
      known_at (take n xs) ys (n - 1) x y all (taken xs n (n - 1) (omega (arith, some)) ∙ at) there
