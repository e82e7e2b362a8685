-- The numbers that are read are those that are printed.
use Rattle.std.proofs.Common.{◌≡◌, ℕ, ◌+◌, ◌-◌, ◌*◌, ◌<◌, ◌&&◌, cond, eqb, nat_lt, List, [], ◌∷◌, Some, None, length}
use Rattle.std.proofs.Common.{true, refl, sym, ◌∙◌, ap, arith}
use Rattle.std.specs.{List.{list_all}, Fmt.{decimal}}
use Rattle.sect_front.specs.Words.{is_digit}
use Rattle.sect_front.specs.steps.Recognition.{decimal_from, number_of}
use Rattle.sect_front.proofs.shared.Numerals as numerals

-- numbers are numerals below 2 ^ 63
from_is : (n : ℕ) (ds : List ℕ) → decimal_from n ds ≡ numerals.numeral_from 9223372036854775808 n ds
from_is n [] = refl
from_is n (d ∷ ds) =
    ap (λ r. cond (is_digit d && nat_lt (n * 10 + (d - 48)) 9223372036854775808) r None)
    (from_is (n * 10 + (d - 48)) ds)

number_is : (ds : List ℕ) → number_of ds ≡ numerals.numeral 9223372036854775808 ds
number_is [] = refl
number_is (d ∷ ds) = ap (cond (eqb d 48 && nat_lt 0 (length ds)) None) (from_is 0 (d ∷ ds))

pub number_decimal : (n : ℕ) → n < 9223372036854775808 → number_of (decimal n) ≡ Some n
number_decimal n h = number_is (decimal n) ∙ numerals.numeral_decimal 9223372036854775808 n (omega arith) h

-- digits that are read as a number are what is printed of it
pub number_back : (ds : List ℕ) (n : ℕ) → number_of ds ≡ Some n → (ds ≡ decimal n) × (n < 9223372036854775808)
number_back ds n h = numerals.numeral_back 9223372036854775808 ds n (omega arith) (omega arith) (sym (number_is ds) ∙ h)

pub decimal_digits : (n : ℕ) → n < 9223372036854775808 → list_all is_digit (decimal n) ≡ true
decimal_digits n h = numerals.decimal_digits n (omega arith)

pub decimal_some : (n : ℕ) → n < 9223372036854775808 → 0 < length (decimal n)
decimal_some n h = numerals.decimal_some n (omega arith)
