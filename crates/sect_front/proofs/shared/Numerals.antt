-- Numerals below a limit: the numbers that are read are those that are printed.
use Rattle.std.proofs.Common.{◌≡◌, ◌≢◌, ℕ, zero, suc, ◌+◌, ◌-◌, ◌*◌, ◌/◌, ◌%◌, ◌<◌, ◌≤◌, Bool, true, false, ◌&&◌, cond}
use Rattle.std.proofs.Common.{eqb, nat_lt, ◌==◌, if◌then◌else◌, List, [], ◌∷◌, ◌++◌, Option, Some, None, length, get_or}
use Rattle.std.proofs.Common.{refl, sym, ◌∙◌, ap, arith, rules}
use Rattle.std.proofs.lemmas.Bool.Decides.{nat_tests}
use Rattle.std.proofs.lemmas.Fmt.{decimal_by_steps_wide, decimal-digits_value, digits_decimal, decimal_nonempty}
use Rattle.std.proofs.lemmas.Str.Parse.{IsNumeralModel, IsDigitsTest, FoldsDigits, numerals_by_fold}
use Rattle.std.proofs.lemmas.Bool.{ltb-true, eq-eqb, and_parts, lt-ltb, and_right}
use Rattle.std.specs.{List.{list_all}, Fmt.{decimal}}
use Rattle.sect_front.specs.Words.{is_digit}
use Rattle.sect_front.proofs.Choices.{chosen, refused}
use Rattle.sect_lemmas.proofs.Options.{some_injective, none_or_some}

-- the number that digits are after a number, where it is below the limit
abbrev pub numeral_from : ℕ → ℕ → List ℕ → Option ℕ
numeral_from limit n [] = Some n
numeral_from limit n (d ∷ ds) =
    if is_digit d && nat_lt (n * 10 + (d - 48)) limit then numeral_from limit (n * 10 + (d - 48)) ds else None

-- no zero stands before another digit
abbrev pub numeral : ℕ → List ℕ → Option ℕ
numeral limit [] = None
numeral limit (d ∷ ds) = if d == 48 && nat_lt 0 (length ds) then None else numeral_from limit 0 (d ∷ ds)

digit_test : (n : ℕ) → n < 10 → is_digit (48 + n) ≡ true
digit_test n h = grind (arith, nat_tests)

-- one more digit at the end
last_digit : (limit k : ℕ) (ds : List ℕ) (m d : ℕ) → numeral_from limit k ds ≡ Some m → d < 10 → m * 10 + d < limit
    → numeral_from limit k (ds ++ (48 + d) ∷ []) ≡ Some (m * 10 + d)
last_digit limit k [] m d h small fits =
    let e : k ≡ m = cc in
    let f : 48 + d - 48 ≡ d = omega arith in
    rw (e, digit_test d small, f, lt-ltb (m * 10 + d) limit fits) refl
last_digit limit k (c ∷ ds) m d h small fits =
    go (is_digit c && nat_lt (k * 10 + (c - 48)) limit) h
    (λ g. last_digit limit (k * 10 + (c - 48)) ds m d g small fits)
  where
    go : (b : Bool) → cond b (numeral_from limit (k * 10 + (c - 48)) ds) None ≡ Some m
        → (numeral_from limit (k * 10 + (c - 48)) ds ≡ Some m
        → numeral_from limit (k * 10 + (c - 48)) (ds ++ (48 + d) ∷ []) ≡ Some (m * 10 + d)) →
        cond b (numeral_from limit (k * 10 + (c - 48)) (ds ++ (48 + d) ∷ [])) None ≡ Some (m * 10 + d)
    go true g f = f g
    go false g f = cc

-- what is printed of a number is read as it
record Reads (limit n : ℕ) (ds : List ℕ) : Type 0 where
  value : n < limit → numeral_from limit 0 ds ≡ Some n
  some : 0 < length ds
  lead : 0 < n → get_or ds 0 0 ≢ 48
  zero_alone : n ≡ 0 → length ds ≡ 1

reads_one : (limit n : ℕ) → n < 10 → Reads limit n ((48 + n) ∷ [])
reads_one limit n h = record {
  value = λ fits. let e : 0 * 10 + n ≡ n = omega arith in last_digit limit 0 [] 0 n refl h (omega arith) ∙ ap Some e;
  some = omega arith;
  lead = λ p e. omega arith;
  zero_alone = λ _. refl;
}

reads_more : (limit n : ℕ) (ds : List ℕ) → 10 ≤ n → Reads limit (n / 10) ds
    → Reads limit n (ds ++ ((48 + n % 10) ∷ []))
reads_more limit n [] h r = absurd (omega (arith, r.some))
reads_more limit n (c ∷ ds) h r = record {
  value = λ fits. let e : n / 10 * 10 + n % 10 ≡ n = omega arith in
      last_digit limit 0 (c ∷ ds) (n / 10) (n % 10) (r.value (omega arith)) (omega arith) (omega arith) ∙ ap Some e;
  some = omega arith;
  lead = λ p e. r.lead (omega arith) e;
  zero_alone = λ e. absurd (omega arith);
}

no_lead : (limit n d : ℕ) (ds : List ℕ) → Reads limit n (d ∷ ds) → (eqb d 48 && nat_lt 0 (length ds)) ≡ false
no_lead limit zero d ds r = let one : length (d ∷ ds) ≡ 1 = r.zero_alone refl in
    let none : nat_lt 0 (length ds) ≡ false = grind (arith, nat_tests) in rw none (and_right (eqb d 48) false refl)
no_lead limit (suc n) d ds r = let ne : d ≢ 48 = r.lead (omega arith) in
    let no : eqb d 48 ≡ false = grind (arith, nat_tests) in rw no refl

pub numeral_decimal : (limit n : ℕ) → limit ≤ 18446744073709551616 → n < limit → numeral limit (decimal n) ≡ Some n
numeral_decimal limit n wide h =
    go (decimal n) (decimal_by_steps_wide (Reads limit) (reads_one limit) (reads_more limit) n (omega arith))
  where
    go : (ds : List ℕ) → Reads limit n ds → numeral limit ds ≡ Some n
    go [] r = absurd (omega (arith, r.some))
    go (d ∷ ds) r = rw (no_lead limit n d ds r) (r.value h)

-- the number that digits are after a number
abbrev value_after : ℕ → List ℕ → ℕ
value_after n [] = n
value_after n (d ∷ ds) = value_after (n * 10 + (d - 48)) ds

abbrev AreDigits : List ℕ → Type 0
AreDigits ds = list_all is_digit ds ≡ true

tells : IsDigitsTest AreDigits
tells = search rules

folds : FoldsDigits value_after
folds = search rules

model : IsNumeralModel AreDigits (value_after 0)
model = numerals_by_fold AreDigits tells value_after folds

-- what is read of digits
record IsRead (limit k : ℕ) (ds : List ℕ) (n : ℕ) : Type 0 where
  digits : AreDigits ds
  value : value_after k ds ≡ n
  low : k < limit → n < limit

decimal_read : (limit k : ℕ) (ds : List ℕ) (n : ℕ) → numeral_from limit k ds ≡ Some n → IsRead limit k ds n
decimal_read limit k [] n h = let e = some_injective k n h in
    record { digits = refl; value = e; low = λ l. omega (arith, e) }
decimal_read limit k (d ∷ ds) n h =
    let more : ℕ = k * 10 + (d - 48) in
    let c = chosen (is_digit d && nat_lt more limit) (numeral_from limit more ds) n h in
    let e = and_parts (is_digit d) (nat_lt more limit) c.0 in
    let r = decimal_read limit (k * 10 + (d - 48)) ds n c.1 in
    record { digits = rw e.0 r.digits; value = r.value; low = λ l. r.low (ltb-true more limit e.1) }

-- digits that are read as a number are what is printed of it
pub numeral_back : (limit : ℕ) (ds : List ℕ) (n : ℕ) → 0 < limit → limit ≤ 18446744073709551616
    → numeral limit ds ≡ Some n → (ds ≡ decimal n) × (n < limit)
numeral_back limit [] n some wide h = absurd (none_or_some n h)
numeral_back limit (d ∷ ds) n some wide h =
    let c = refused (eqb d 48 && nat_lt 0 (length ds)) (numeral_from limit 0 (d ∷ ds)) n h in
    let r = decimal_read limit 0 (d ∷ ds) n c.1 in
    let low : n < limit = r.low (omega arith) in
    let lead : d ≡ 48 → length (d ∷ ds) ≡ 1 = λ e. alone (eqb d 48) (length ds) (eq-eqb d 48 e) c.0 in (
      sym (decimal-digits_value model (d ∷ ds) r.digits (omega arith) lead (omega (arith, r.value, low)))
          ∙ ap decimal r.value,
      low,
    )
  where
    alone : (b : Bool) (k : ℕ) → b ≡ true → (b && nat_lt 0 k) ≡ false → suc k ≡ 1
    alone true k e f = grind (arith, nat_tests)
    alone false k e f = cc

pub decimal_digits : (n : ℕ) → n < 18446744073709551616 → AreDigits (decimal n)
decimal_digits n h = digits_decimal model n (omega arith)

pub decimal_some : (n : ℕ) → n < 18446744073709551616 → 0 < length (decimal n)
decimal_some n h = decimal_nonempty n (omega arith)
