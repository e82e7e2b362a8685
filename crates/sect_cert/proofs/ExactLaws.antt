-- No zero leads a number in what a line spells.
use Rattle.sect_cert.proofs.PartsLaws.{has_name_bytes}
use Rattle.sect_cert.proofs.NumberLaws.{number_decimal, digits_of_decimal}
use Rattle.std.proofs.Common.{◌≡◌, ℕ, Bool, true, false, not, cond, eqb, ◌&&◌, List, [], ◌∷◌, ◌++◌, Some, None, length}
use Rattle.std.proofs.{Common.{refl, sym, ◌∙◌, ap, arith, nat_lt}, lemmas.Bool.{eqb-true, and_right, or_right}}
use Rattle.std.proofs.lemmas.Bool.Decides.{nat_tests}
use Rattle.std.specs.{Prelude.{◌==◌, nat_le}, Fmt.{decimal}, List.{AllByRecursion, list_all, join_with_byte}}
use Rattle.sect_front.specs.Words.{is_digit, is_letter, is_name_byte, is_name, begins, is_keyword}
use Rattle.sect_cert.specs.steps.Numbers.{number_of, decimal_from}
use Rattle.sect_cert.specs.{Zeros.{leads, is_exact_from, is_exact}, Texts.{IsNumber}}

-- a byte that ends names and numbers
pub record IsMark (c : ℕ) : Type 0 where
  pub name : is_name_byte c ≡ false
  pub digit : is_digit c ≡ false
  pub zero : (c == 48) ≡ false

pub blank : IsMark 32
blank = record { name = refl; digit = refl; zero = refl }

pub comma : IsMark 44
comma = record { name = refl; digit = refl; zero = refl }

pub hash : IsMark 35
hash = record { name = refl; digit = refl; zero = refl }

pub point : IsMark 46
point = record { name = refl; digit = refl; zero = refl }

pub colon : IsMark 58
colon = record { name = refl; digit = refl; zero = refl }

begins_before : (c : ℕ) → IsMark c → (w rest : List ℕ) → begins is_digit (w ++ c ∷ rest) ≡ begins is_digit w
begins_before c m [] rest = m.digit
begins_before c m (b ∷ w) rest = refl

no_lead : (inside : Bool) (c : ℕ) (bs : List ℕ) → (c == 48) ≡ false → leads inside c bs ≡ false
no_lead true c bs h = refl
no_lead false c bs h = rw h refl

-- what stands on both sides of such a byte is judged alone
pub exact_mark : (c : ℕ) → IsMark c → (inside : Bool) (w rest : List ℕ) → is_exact_from inside w ≡ true
    → is_exact_from false rest ≡ true → is_exact_from inside (w ++ c ∷ rest) ≡ true
exact_mark c m inside [] rest h g = rw (no_lead inside c rest m.zero, m.name) g
exact_mark c m inside (b ∷ w) rest h g =
    ap (λ d. cond (not inside && b == 48 && d) false (is_exact_from (is_name_byte b) (w ++ c ∷ rest)))
    (begins_before c m w rest)
    ∙ go (leads inside b w) h (λ k. exact_mark c m (is_name_byte b) w rest k g)
  where
    go : (t : Bool) → cond t false (is_exact_from (is_name_byte b) w) ≡ true
        → (is_exact_from (is_name_byte b) w ≡ true → is_exact_from (is_name_byte b) (w ++ c ∷ rest) ≡ true) →
        cond t false (is_exact_from (is_name_byte b) (w ++ c ∷ rest)) ≡ true
    go true h k = cc
    go false h k = k h

-- inside a name or number no number begins
exact_inside : (w : List ℕ) → list_all is_name_byte w ≡ true → is_exact_from true w ≡ true
exact_inside [] h = refl
exact_inside (b ∷ w) h = go (is_name_byte b) h (λ k. exact_inside w k)
  where
    go : (t : Bool) → (t && list_all is_name_byte w) ≡ true
        → (list_all is_name_byte w ≡ true → is_exact_from true w ≡ true) → is_exact_from t w ≡ true
    go true h k = k h
    go false h k = cc

digit_is : (b : ℕ) → is_digit b ≡ true → is_name_byte b ≡ true
digit_is b h = rw h (or_right (is_letter b) true refl)

letter_is : (b : ℕ) → is_letter b ≡ true → is_name_byte b ≡ true
letter_is b h = rw h refl

pub digits_are : (ds : List ℕ) → list_all is_digit ds ≡ true → list_all is_name_byte ds ≡ true
digits_are [] h = refl
digits_are (d ∷ ds) h = go (is_digit d) refl h (λ k. digits_are ds k)
  where
    go : (t : Bool) → is_digit d ≡ t → (t && list_all is_digit ds) ≡ true
        → (list_all is_digit ds ≡ true → list_all is_name_byte ds ≡ true)
        → (is_name_byte d && list_all is_name_byte ds) ≡ true
    go true e h k = rw (digit_is d e) (k h)
    go false e h k = cc

-- a number that is read has no leading zero
number_leads : (d : ℕ) (ds : List ℕ) (n : ℕ) → number_of (d ∷ ds) ≡ Some n → leads false d ds ≡ false
number_leads d [] n h = and_right (d == 48) false refl
number_leads d (c ∷ ds) n h = go (d == 48) h
  where
    more : nat_lt 0 (length (c ∷ ds)) ≡ true
    more = grind (arith, nat_tests)

    go : (b : Bool) → cond (b && nat_lt 0 (length (c ∷ ds))) None (decimal_from 0 (d ∷ c ∷ ds)) ≡ Some n
        → (b && is_digit c) ≡ false
    go true k = let bad : None ≡ Some n = ap (λ t. cond t None (decimal_from 0 (d ∷ c ∷ ds))) (sym more) ∙ k in cc
    go false k = refl

exact_digits : (ds : List ℕ) (n : ℕ) → number_of ds ≡ Some n → list_all is_digit ds ≡ true → is_exact ds ≡ true
exact_digits [] n h g = refl
exact_digits (d ∷ ds) n h g = rw (number_leads d ds n h) (go (is_digit d) refl g)
  where
    go : (t : Bool) → is_digit d ≡ t → (t && list_all is_digit ds) ≡ true → is_exact_from (is_name_byte d) ds ≡ true
    go true e g = rw (digit_is d e) (exact_inside ds (digits_are ds g))
    go false e g = cc

-- no zero leads what is printed of a number
pub exact_number : (n : ℕ) → IsNumber n → is_exact (decimal n) ≡ true
exact_number n h = exact_digits (decimal n) n (number_decimal n h) (digits_of_decimal n h)

letter_first : (w : List ℕ) → is_name w ≡ true → begins is_letter w ≡ true
letter_first w h = go (begins is_letter w) (list_all is_name_byte w) (nat_le (length w) 32) (not (is_keyword w)) h
  where
    go : (a b c d : Bool) → (a && b && c && d) ≡ true → a ≡ true
    go true b c d h = refl
    go false b c d h = cc

no_zero : (b : ℕ) → is_letter b ≡ true → (b == 48) ≡ false
no_zero b h = go (eqb b 48) refl
  where
    go : (s : Bool) → eqb b 48 ≡ s → s ≡ false
    go false e = refl
    go true e = let bad : true ≡ false = sym h ∙ ap is_letter (eqb-true b 48 e) in cc

exact_word : (w : List ℕ) → begins is_letter w ≡ true → list_all is_name_byte w ≡ true → is_exact w ≡ true
exact_word [] h g = refl
exact_word (b ∷ w) h g = rw (no_lead false b w (no_zero b h), letter_is b h) (exact_inside w (go (is_name_byte b) g))
  where
    go : (t : Bool) → (t && list_all is_name_byte w) ≡ true → list_all is_name_byte w ≡ true
    go true g = g
    go false g = cc

pub exact_name : (w : List ℕ) → is_name w ≡ true → is_exact w ≡ true
exact_name w h = exact_word w (letter_first w h) (has_name_bytes w h)

-- nor a number in parts joined by points
pub exact_joined : (ws : List (List ℕ)) → AllByRecursion (λ w. is_exact w ≡ true) ws
    → is_exact (join_with_byte 46 ws) ≡ true
exact_joined [] h = refl
exact_joined (w ∷ []) h = h.0
exact_joined (w ∷ v ∷ ws) h = exact_mark 46 point false w (join_with_byte 46 (v ∷ ws)) h.0 (exact_joined (v ∷ ws) h.1)

pub exact_names : (names : List (List ℕ)) → list_all is_name names ≡ true
    → AllByRecursion (λ w. is_exact w ≡ true) names
exact_names [] h = tt
exact_names (w ∷ names) h = go (is_name w) refl h (λ k. exact_names names k)
  where
    go : (t : Bool) → is_name w ≡ t → (t && list_all is_name names) ≡ true
        → (list_all is_name names ≡ true → AllByRecursion (λ x. is_exact x ≡ true) names) →
        (is_exact w ≡ true) × AllByRecursion (λ x. is_exact x ≡ true) names
    go true e h k = (exact_name w e, k h)
    go false e h k = cc
