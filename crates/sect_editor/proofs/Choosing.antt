-- Numbers that are chosen one by one.
use Rattle.std.proofs.Common.{ℕ, ◌+◌, List, [], ◌∷◌, ◌++◌, refl, sym, subst}
use Rattle.std.specs.List.{range_with_len}
use Rattle.sect_conflicts.specs.{Conflicts.{Selects}, Selecting.{Adds}}
use Rattle.sect_conflicts.proofs.shared.Selecting.{adds_one, adds_none, adds_both, adds_all}
use Rattle.sect_editor.proofs.Listing.{counting}

module _ (P : ℕ → Type 0) (n : ℕ) (old : List ℕ) (had : Selects P (range_with_len 0 n) old) where
  next : (new : List ℕ) → Adds P (n ∷ []) old new → Selects P (range_with_len 0 (n + 1)) new
  next new more =
      subst (λ (xs : List ℕ). Selects P xs new) (sym (counting n))
      (adds_all P (range_with_len 0 n ++ n ∷ []) new
      (adds_both P (range_with_len 0 n) (n ∷ []) [] old new (old, refl, had) more))

  -- the next number is chosen
  pub choose : P n → Selects P (range_with_len 0 (n + 1)) (old ++ n ∷ [])
  choose p = next (old ++ n ∷ []) (adds_one P n old (old ++ n ∷ []) p refl)

  -- or it isn't
  pub pass_over : (P n → ⊥) → Selects P (range_with_len 0 (n + 1)) old
  pass_over fails = next old (adds_none P n old fails)
