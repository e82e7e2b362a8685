-- The numbers that are read are those that are printed.
use Rattle.std.proofs.Common.{◌≡◌, ℕ, ◌+◌, ◌-◌, ◌*◌, ◌<◌, ◌&&◌, cond, eqb, nat_lt, List, [], ◌∷◌, Some, None, length}
use Rattle.std.proofs.Common.{true, refl, sym, ◌∙◌, ap, arith}
use Rattle.std.specs.{List.{list_all}, Fmt.{decimal}}
use Rattle.sect_front.specs.Words.{is_digit}
use Rattle.sect_front.proofs.shared.Numerals.{numeral_from, numeral, numeral_decimal, numeral_back, decimal_digits}
use Rattle.sect_cert.specs.steps.Numbers.{decimal_from, number_of}

-- numbers are numerals below 2 ^ 32
from_is : (n : ℕ) (ds : List ℕ) → decimal_from n ds ≡ numeral_from 4294967296 n ds
from_is n [] = refl
from_is n (d ∷ ds) =
    ap (λ r. cond (is_digit d && nat_lt (n * 10 + (d - 48)) 4294967296) r None) (from_is (n * 10 + (d - 48)) ds)

number_is : (ds : List ℕ) → number_of ds ≡ numeral 4294967296 ds
number_is [] = refl
number_is (d ∷ ds) = ap (cond (eqb d 48 && nat_lt 0 (length ds)) None) (from_is 0 (d ∷ ds))

-- what is printed of a number is read as it
pub number_decimal : (n : ℕ) → n < 4294967296 → number_of (decimal n) ≡ Some n
number_decimal n h = number_is (decimal n) ∙ numeral_decimal 4294967296 n (omega arith) h

pub digits_of_decimal : (n : ℕ) → n < 4294967296 → list_all is_digit (decimal n) ≡ true
digits_of_decimal n h = decimal_digits n (omega arith)

-- a word that is read as a number is what is printed of it
pub decimal_number : (w : List ℕ) (n : ℕ) → number_of w ≡ Some n → (w ≡ decimal n) × (n < 4294967296)
decimal_number w n h = numeral_back 4294967296 w n (omega arith) (omega arith) (sym (number_is w) ∙ h)
