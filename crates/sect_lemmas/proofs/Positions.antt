-- Where something stands first in a list.
use Rattle.std.proofs.Common.{◌≡◌, ℕ, ◌<◌, Bool, true, false, List, Some, None, refl, ap, ◌∙◌, length, get_or, arith}
use Rattle.std.proofs.{lemmas.Bool.{ltb-false, ltb-true}, lemmas.List.Sums.{position_or_len_is}}
use Rattle.std.specs.Prelude.{cond, nat_lt, position}

-- a number below the count is given
chosen : (i n : ℕ) → i < n → cond (nat_lt i n) (Some i) None ≡ Some i
chosen i n lt = go (nat_lt i n) refl
  where
    go : (b : Bool) → nat_lt i n ≡ b → cond b (Some i) None ≡ Some i
    go true e = refl
    go false e = absurd (let past = ltb-false i n e in omega (arith, lt, past))

-- the count itself isn't
passed : (n : ℕ) → cond (nat_lt n n) (Some n) None ≡ None
passed n = go (nat_lt n n) refl
  where
    go : (b : Bool) → nat_lt n n ≡ b → cond b (Some n) None ≡ None
    go true e = absurd (let lt = ltb-true n n e in omega (arith, lt))
    go false e = refl

-- the first place of a kind is the one before which there is none
pub first_position : {X : Type 0} (p : X → Bool) (xs : List X) (d : X) (i : ℕ) → i < length xs
    → ((k : ℕ) → k < i → p (get_or xs k d) ≡ false) → p (get_or xs i d) ≡ true → position p xs ≡ Some i
first_position p xs d i within before here =
    let at = position_or_len_is p xs i d (omega (arith, within)) before (λ lt. here) in
    ap (λ k. cond (nat_lt k (length xs)) (Some k) None) at ∙ chosen i (length xs) within

-- where nothing is of the kind there is no place
pub no_position : {X : Type 0} (p : X → Bool) (xs : List X) (d : X)
    → ((k : ℕ) → k < length xs → p (get_or xs k d) ≡ false) → position p xs ≡ None
no_position p xs d none =
    let at = position_or_len_is p xs (length xs) d (omega arith) none (λ lt. absurd (omega (arith, lt))) in
    ap (λ k. cond (nat_lt k (length xs)) (Some k) None) at ∙ passed (length xs)
