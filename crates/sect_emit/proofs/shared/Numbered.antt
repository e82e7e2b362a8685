-- Texts that are added one after another, each by its number.
use Rattle.std.proofs.Common.{◌≡◌, ◌≤◌, ℕ, ◌+◌, List, [], ◌∷◌, ◌++◌, Some, length, drop, sym, ap, ◌∙◌, append_assoc}
use Rattle.std.proofs.{Common.{append-nil, arith, Result, Ok, Err, OnOk}, lemmas.List.{drop_all}}
use Rattle.std.proofs.lemmas.Option.{slice_get_within, get_or_from_slice_get}
use Rattle.std.specs.Prelude.{slice_get}
use Rattle.sect_lemmas.proofs.Elements.{drop_next}
use Rattle.sect_emit.specs.Listing.{by_number}

-- one more has been added
pub added_on : {A : Type 0} (text : ℕ → A → List ℕ) (xs : List A) (n : ℕ) (x : A) (old new all : List ℕ)
    → slice_get xs n ≡ Some x → new ≡ old ++ text n x → old ++ by_number text n (drop n xs) ≡ all
    → new ++ by_number text (n + 1) (drop (n + 1) xs) ≡ all
added_on text xs n x old new all at is so_far =
    ap (λ w. w ++ by_number text (n + 1) (drop (n + 1) xs)) is
    ∙ (append_assoc old (text n x) (by_number text (n + 1) (drop (n + 1) xs))
    ∙ (ap (λ l. old ++ by_number text n l)
    (sym (drop_next xs n x (slice_get_within xs n x at) (sym (get_or_from_slice_get xs n x x at)))) ∙ so_far))

-- all have been added
pub all_added : {A : Type 0} (text : ℕ → A → List ℕ) (xs : List A) (n : ℕ) (old all : List ℕ) → length xs ≤ n
    → old ++ by_number text n (drop n xs) ≡ all → old ≡ all
all_added text xs n old all past so_far =
    sym (append-nil old) ∙ (ap (λ l. old ++ by_number text n l) (sym (drop_all n xs past)) ∙ so_far)

-- behind others stands one more
pub one_behind : {A : Type 0} (text : ℕ → A → List ℕ) (n : ℕ) (xs : List A) (x : A)
    → by_number text n (xs ++ x ∷ []) ≡ by_number text n xs ++ text (n + length xs) x
one_behind text n [] x = append-nil (text n x) ∙ ap (λ m. text m x) (omega arith)
one_behind text n (y ∷ xs) x =
    ap (λ r. text n y ++ r) (one_behind text (n + 1) xs x
    ∙ ap (λ m. by_number text (n + 1) xs ++ text m x) (omega arith))
    ∙ sym (append_assoc (text n y) (by_number text (n + 1) xs) (text (n + length (y ∷ xs)) x))

-- what follows from what a call promises if it gives `Ok`
pub on_ok : {T E P Q : Type 0} (r : Result T E) → OnOk r P → (P → Q) → OnOk r Q
on_ok (Ok x) h follows = follows h
on_ok (Err e) h follows = tt
