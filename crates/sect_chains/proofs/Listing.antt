-- Numbers in the canonical order of their locks.
use Rattle.std.proofs.Common.{◌≡◌, ◌≤◌, ℕ, List, [], ◌∷◌, length, sym, subst, arith}
use Rattle.sect_names.specs.declared.lock.Lock.{Lock}
use Rattle.sect_infer.specs.Numberings.{IsOrderOf}

-- at most one number is in order
pub few_in_order : (keys : List Lock) (numbers order : List ℕ) → length numbers ≤ 1 → order ≡ numbers
    → IsOrderOf keys numbers order
few_in_order keys [] order few is =
    subst (IsOrderOf keys []) (sym is) (record { sorted = tt; same = λ n h. h; all = λ n h. h })
few_in_order keys (m ∷ []) order few is =
    subst (IsOrderOf keys (m ∷ [])) (sym is)
    (record { sorted = (λ l h. absurd h, tt); same = λ n h. h; all = λ n h. h })
few_in_order keys (m ∷ k ∷ numbers) order few is = absurd (omega (arith, few))
