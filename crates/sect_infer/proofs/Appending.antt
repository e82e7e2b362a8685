-- Numbers that are fresh.
use Rattle.std.proofs.Common.{◌≡◌, ℕ, ◌+◌, ◌<◌, List, [], ◌∷◌, ◌++◌, true, false, not, length, get_or, take, sym, ap}
use Rattle.std.proofs.{Common.{◌∙◌}, lemmas.List.{append-nil}, lemmas.List.Elements.{filter_more}}
use Rattle.std.specs.Prelude.{cond}
use Rattle.sect_infer.specs.Numberings.{is_under, fresh_from}

module _ (above : List (List ℕ)) (found numbers : List ℕ) (i n : ℕ) (within : i < length numbers)
    (is : n ≡ get_or numbers i n) where
  -- the next number is fresh or not
  more : fresh_from above found (take (i + 1) numbers) ≡ fresh_from above found (take i numbers)
      ++ cond (not (is_under above found n)) (n ∷ []) []
  more = filter_more (λ m. not (is_under above found m)) numbers i n within
      ∙ ap (λ m. fresh_from above found (take i numbers) ++ cond (not (is_under above found m)) (m ∷ []) []) (sym is)

  pub fresh_next : is_under above found n ≡ false
      → fresh_from above found (take (i + 1) numbers) ≡ fresh_from above found (take i numbers) ++ n ∷ []
  fresh_next e = more ∙ ap (λ b. fresh_from above found (take i numbers) ++ cond (not b) (n ∷ []) []) e

  pub fresh_skip : is_under above found n ≡ true
      → fresh_from above found (take (i + 1) numbers) ≡ fresh_from above found (take i numbers)
  fresh_skip e = more ∙ ap (λ b. fresh_from above found (take i numbers) ++ cond (not b) (n ∷ []) []) e
      ∙ append-nil (fresh_from above found (take i numbers))
