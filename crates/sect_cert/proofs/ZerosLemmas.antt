-- A line without leading zeros is what it is without them.
use Rattle.std.proofs.Common.{◌≡◌, ℕ, Bool, true, false, cond, List, [], ◌∷◌, refl, ap}
use Rattle.sect_front.specs.Words.{is_name_byte}
use Rattle.sect_cert.specs.Zeros.{leads, plain_from, plain, is_exact_from, is_exact}

-- where no zero leads a number none is left out
pub plain_exact_from : (inside : Bool) (line : List ℕ) → is_exact_from inside line ≡ true
    → plain_from inside line ≡ line
plain_exact_from inside [] h = refl
plain_exact_from inside (b ∷ bs) h = go (leads inside b bs) h (λ k. plain_exact_from (is_name_byte b) bs k)
  where
    go : (t : Bool) → cond t false (is_exact_from (is_name_byte b) bs) ≡ true
        → (is_exact_from (is_name_byte b) bs ≡ true → plain_from (is_name_byte b) bs ≡ bs) →
        cond t (plain_from false bs) (b ∷ plain_from (is_name_byte b) bs) ≡ b ∷ bs
    go true h k = cc
    go false h k = ap (λ x. b ∷ x) (k h)

pub plain_exact : (line : List ℕ) → is_exact line ≡ true → plain line ≡ line
plain_exact line h = plain_exact_from false line h
