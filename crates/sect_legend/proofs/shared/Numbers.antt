-- What numbers give, one after another.
use Rattle.std.proofs.Common.{◌≡◌, ◌∙◌, ℕ, ◌+◌, List, [], ◌∷◌, ◌++◌, ap, sym, arith}
use Rattle.std.proofs.lemmas.List.{append-nil, append_assoc, map-id}
use Rattle.std.proofs.{lemmas.Grind.{flat_map-append}, lemmas.List.FromFn.{map-range_with_len_more}}
use Rattle.std.specs.List.{flat_map, range_with_len}

-- the next number
range_next : (n : ℕ) → range_with_len 0 (n + 1) ≡ range_with_len 0 n ++ n ∷ []
range_next n =
    sym (map-id (range_with_len 0 (n + 1))) ∙ (map-range_with_len_more (λ k. k) 0 n n (omega arith)
    ∙ ap (λ ks. ks ++ n ∷ []) (map-id (range_with_len 0 n)))

-- what the first numbers give, and what the next gives
pub more_given : {A : Type 0} (of : ℕ → List A) (n : ℕ) (old had more : List A)
    → had ≡ old ++ flat_map of (range_with_len 0 n) → more ≡ had ++ of n
    → more ≡ old ++ flat_map of (range_with_len 0 (n + 1))
more_given of n old had more e m =
    let next : flat_map of (range_with_len 0 (n + 1)) ≡ flat_map of (range_with_len 0 n) ++ of n =
    ap (flat_map of) (range_next n) ∙ (flat_map-append of (range_with_len 0 n) (n ∷ [])
    ∙ ap (λ xs. flat_map of (range_with_len 0 n) ++ xs) (append-nil (of n))) in
    m ∙ (ap (λ xs. xs ++ of n) e ∙ (append_assoc old (flat_map of (range_with_len 0 n)) (of n)
    ∙ ap (λ xs. old ++ xs) (sym next)))
