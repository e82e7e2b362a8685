-- Texts that are put together piece by piece.
use Rattle.std.proofs.Common.{◌≡◌, ℕ, ◌+◌, ◌<◌, List, ◌++◌, length, drop, Some, sym, ap, ◌∙◌, append_assoc}
use Rattle.std.proofs.lemmas.Option.{slice_get_within, get_or_from_slice_get}
use Rattle.std.specs.Prelude.{slice_get}
use Rattle.sect_lemmas.proofs.{Elements.{drop_next}, Places.{at_of}}
use Rattle.sect_store.specs.Printing.{by_place}

-- one piece more
pub one_more : (old new piece rest all : List ℕ) → new ≡ old ++ piece → old ++ (piece ++ rest) ≡ all → new ++ rest ≡ all
one_more old new piece rest all put had = ap (λ t. t ++ rest) put ∙ (append_assoc old piece rest ∙ had)

module _ {A : Type 0} (of : ℕ → A → List ℕ) (xs : List A) (n : ℕ) where
  -- the piece at a place, and then those behind it
  pub piece_at : (x : A) → slice_get xs n ≡ Some x
      → by_place of n (drop n xs) ≡ of n x ++ by_place of (n + 1) (drop (n + 1) xs)
  piece_at x at =
      ap (by_place of n) (drop_next xs n x (slice_get_within xs n x at) (sym (get_or_from_slice_get xs n x x at)))

  -- it is put there
  pub piece_more : (old new all : List ℕ) → n < length xs
      → ((x : A) → slice_get xs n ≡ Some x → new ≡ old ++ of n x)
      → old ++ by_place of n (drop n xs) ≡ all → new ++ by_place of (n + 1) (drop (n + 1) xs) ≡ all
  piece_more old new all within put had =
      let here = at_of xs n within in
      one_more old new (of n here.0) (by_place of (n + 1) (drop (n + 1) xs)) all (put here.0 here.1)
      (ap (λ t. old ++ t) (sym (piece_at here.0 here.1)) ∙ had)
