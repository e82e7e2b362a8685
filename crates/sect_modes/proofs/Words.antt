-- The word of a key and its holders.
use Rattle.std.proofs.Common.{true≢false, ◌≡◌, ◌<◌, ◌≤◌, ◌+◌, ◌*◌, ◌^◌, ◌∙◌, refl, sym, ap, arith, ℕ, zero, suc}
use Rattle.std.proofs.Common.{Bool, true, false, List, [], ◌∷◌, length, ◌==◌, ◌&&◌, not}
use Rattle.std.proofs.lemmas.Bool.{and_parts, and_from, eqb-true, eq-eqb}
use Rattle.std.proofs.{lemmas.Nat.{and_block, and_mask, and_le_r}, Math.Nat.{mod-eq_of_lt}}
use lib.Bits.{bit_and}
use Rattle.sect_modes.specs.{declared.mode.Mode.{Mode}, Mode.{are_compatible}}
use Rattle.sect_modes.specs.declared.mode.Mode.TheVariants.{IntentionShared, IntentionExclusive, Shared}
use Rattle.sect_modes.specs.declared.mode.Mode.TheVariants.{SharedIntentionExclusive, Exclusive}
use Rattle.sect_modes.specs.Word.{unit_of, word_of, waited_word, against, goes_with, GivesBack, Fits}

-- the modes in the order of their counts
abbrev place : Mode → ℕ
place IntentionShared = 0
place IntentionExclusive = 1
place Shared = 2
place SharedIntentionExclusive = 3
place Exclusive = 4

abbrev mode_at : ℕ → Mode
mode_at zero = IntentionShared
mode_at (suc zero) = IntentionExclusive
mode_at (suc (suc zero)) = Shared
mode_at (suc (suc (suc zero))) = SharedIntentionExclusive
mode_at (suc (suc (suc (suc _)))) = Exclusive

placed : (m : Mode) → mode_at (place m) ≡ m
placed IntentionShared = refl
placed IntentionExclusive = refl
placed Shared = refl
placed SharedIntentionExclusive = refl
placed Exclusive = refl

-- a number, where it is kept
abbrev kept : Bool → ℕ → ℕ
kept true n = n
kept false n = 0

-- one where both are the same mode
abbrev one : Mode → Mode → ℕ
one m h = kept (place m == place h) 1

-- how many hold it in this mode
abbrev count : Mode → List Mode → ℕ
count m [] = 0
count m (h ∷ hs) = one m h + count m hs

kept_at_most : (b : Bool) (n : ℕ) → kept b n ≤ n
kept_at_most true n = omega arith
kept_at_most false n = omega arith

one_is : (m h : Mode) → 0 < one m h → m ≡ h
one_is m h some = by (place m == place h) refl some where
  by : (b : Bool) → (place m == place h) ≡ b → 0 < kept b 1 → m ≡ h
  by true same some = sym (placed m) ∙ (ap mode_at (eqb-true (place m) (place h) same) ∙ placed h)
  by false apart some = absurd (omega (arith, some))

one_itself : (m : Mode) → one m m ≡ 1
one_itself m = ap (λ b. kept b 1) (eq-eqb (place m) (place m) refl)

counted : (m : Mode) (hs : List Mode) → count m hs ≤ length hs
counted m [] = omega arith
counted m (h ∷ hs) = let a = kept_at_most (place m == place h) 1 in let b = counted m hs in omega (arith, a, b)

-- five counts and what is above them in one word
abbrev packed : ℕ → ℕ → ℕ → ℕ → ℕ → ℕ → ℕ
packed f x d s i a = ((((f * 2 ^ 12 + x) * 2 ^ 12 + d) * 2 ^ 12 + s) * 2 ^ 12 + i) * 2 ^ 12 + a

of_counts : (w : ℕ) (hs : List Mode)
    → waited_word w hs
    ≡ packed w (count Exclusive hs) (count SharedIntentionExclusive hs) (count Shared hs) (count IntentionExclusive hs)
    (count IntentionShared hs)
of_counts w [] = omega arith
of_counts w (IntentionShared ∷ hs) = let e = of_counts w hs in omega (arith, e)
of_counts w (IntentionExclusive ∷ hs) = let e = of_counts w hs in omega (arith, e)
of_counts w (Shared ∷ hs) = let e = of_counts w hs in omega (arith, e)
of_counts w (SharedIntentionExclusive ∷ hs) = let e = of_counts w hs in omega (arith, e)
of_counts w (Exclusive ∷ hs) = let e = of_counts w hs in omega (arith, e)

bits_kept : (b : Bool) (n : ℕ) → n < 2 ^ 12 → bit_and n (kept b 4095) ≡ kept b n
bits_kept true n less = and_mask n 12 ∙ mod-eq_of_lt less
bits_kept false n less = let e = and_le_r n 0 in omega (arith, e)

masked : (f x d s i a : ℕ) (bx bd bs bi ba : Bool) → x < 2 ^ 12 → d < 2 ^ 12 → s < 2 ^ 12 → i < 2 ^ 12 → a < 2 ^ 12
    → bit_and (packed f x d s i a)
    (packed 0 (kept bx 4095) (kept bd 4095) (kept bs 4095) (kept bi 4095) (kept ba 4095))
    ≡ packed 0 (kept bx x) (kept bd d) (kept bs s) (kept bi i) (kept ba a)
masked f x d s i a bx bd bs bi ba lx ld ls li la =
    step ((((f * 2 ^ 12 + x) * 2 ^ 12 + d) * 2 ^ 12 + s) * 2 ^ 12 + i)
    ((((0 * 2 ^ 12 + kept bx 4095) * 2 ^ 12 + kept bd 4095) * 2 ^ 12 + kept bs 4095) * 2 ^ 12 + kept bi 4095)
    ((((0 * 2 ^ 12 + kept bx x) * 2 ^ 12 + kept bd d) * 2 ^ 12 + kept bs s) * 2 ^ 12 + kept bi i) a ba la
    (step (((f * 2 ^ 12 + x) * 2 ^ 12 + d) * 2 ^ 12 + s)
    (((0 * 2 ^ 12 + kept bx 4095) * 2 ^ 12 + kept bd 4095) * 2 ^ 12 + kept bs 4095)
    (((0 * 2 ^ 12 + kept bx x) * 2 ^ 12 + kept bd d) * 2 ^ 12 + kept bs s) i bi li
    (step ((f * 2 ^ 12 + x) * 2 ^ 12 + d) ((0 * 2 ^ 12 + kept bx 4095) * 2 ^ 12 + kept bd 4095)
    ((0 * 2 ^ 12 + kept bx x) * 2 ^ 12 + kept bd d) s bs ls
    (step (f * 2 ^ 12 + x) (0 * 2 ^ 12 + kept bx 4095) (0 * 2 ^ 12 + kept bx x) d bd ld
    (step f 0 0 x bx lx (let e = and_le_r f 0 in omega (arith, e))))))
  where
    step : (p q r n : ℕ) (b : Bool) → n < 2 ^ 12 → bit_and p q ≡ r
        → bit_and (p * 2 ^ 12 + n) (q * 2 ^ 12 + kept b 4095) ≡ r * 2 ^ 12 + kept b n
    step p q r n b less e =
        and_block 12 p q n (kept b 4095) less (let k = kept_at_most b 4095 in omega (arith, k))
        ∙ (ap (λ z. z * 2 ^ 12 + bit_and n (kept b 4095)) e ∙ ap (λ z. r * 2 ^ 12 + z) (bits_kept b n less))

-- whether a mode isn't compatible with this one
abbrev differs : Mode → Mode → Bool
differs n m = not (are_compatible n m)

of_bits : (m : Mode)
    → against m
    ≡ packed 0 (kept (differs Exclusive m) 4095) (kept (differs SharedIntentionExclusive m) 4095)
    (kept (differs Shared m) 4095) (kept (differs IntentionExclusive m) 4095) (kept (differs IntentionShared m) 4095)
of_bits IntentionShared = refl
of_bits IntentionExclusive = refl
of_bits Shared = refl
of_bits SharedIntentionExclusive = refl
of_bits Exclusive = refl

-- nobody holds it in a mode that isn't compatible
none_differs : (m n : Mode) → differs n m ≡ true → (hs : List Mode) → goes_with m hs ≡ true → count n hs ≡ 0
none_differs m n apart [] all = refl
none_differs m n apart (h ∷ hs) all =
    let both = and_parts (are_compatible h m) (goes_with m hs) all in
    let rest = none_differs m n apart hs both.1 in
    by (one n h) refl rest both.0
  where
    by : (x : ℕ) → one n h ≡ x → count n hs ≡ 0 → are_compatible h m ≡ true → one n h + count n hs ≡ 0
    by zero e rest is = omega (arith, e, rest)
    by (suc x) e rest is =
        let same = one_is n h (omega (arith, e)) in
        absurd (true≢false (sym (ap not (sym is) ∙ (ap (λ z. differs z m) (sym same) ∙ apart))))

all_go : (m : Mode) (hs : List Mode) → ((n : Mode) → differs n m ≡ true → count n hs ≡ 0) → goes_with m hs ≡ true
all_go m [] none = refl
all_go m (h ∷ hs) none =
    by (are_compatible h m) refl
    (all_go m hs (λ n apart. let e = none n apart in omega (arith, e)))
  where
    by : (b : Bool) → are_compatible h m ≡ b → goes_with m hs ≡ true → (are_compatible h m && goes_with m hs) ≡ true
    by true is rest = and_from (are_compatible h m) (goes_with m hs) is rest
    by false is rest =
        let e = none h (ap not is) in let o = one_itself h in absurd (omega (arith, e, o))

kept_zero : (b : Bool) (n : ℕ) → (b ≡ true → n ≡ 0) → kept b n ≡ 0
kept_zero true n e = e refl
kept_zero false n e = refl

zero_kept : (b : Bool) (n : ℕ) → kept b n ≡ 0 → b ≡ true → n ≡ 0
zero_kept true n e is = e
zero_kept false n e is = absurd (true≢false (sym is))

packed_zero : (x d s i a : ℕ) → x ≡ 0 → d ≡ 0 → s ≡ 0 → i ≡ 0 → a ≡ 0 → packed 0 x d s i a ≡ 0
packed_zero x d s i a e f g h j = omega (arith, e, f, g, h, j)

module _ (m : Mode) (hs : List Mode) where
  abbrev against_it : Mode → ℕ
  against_it n = kept (differs n m) (count n hs)

  abbrev left : ℕ
  left = packed 0 (against_it Exclusive) (against_it SharedIntentionExclusive) (against_it Shared)
      (against_it IntentionExclusive) (against_it IntentionShared)

  part : goes_with m hs ≡ true → (n : Mode) → against_it n ≡ 0
  part all n = kept_zero (differs n m) (count n hs) (λ apart. none_differs m n apart hs all)

  nothing_left : goes_with m hs ≡ true → left ≡ 0
  nothing_left all = packed_zero _ _ _ _ _ (part all Exclusive) (part all SharedIntentionExclusive) (part all Shared)
      (part all IntentionExclusive) (part all IntentionShared)

  goes : left ≡ 0 → goes_with m hs ≡ true
  goes e = all_go m hs (λ n. zero_kept (differs n m) (count n hs) (by n)) where
    by : (n : Mode) → against_it n ≡ 0
    by IntentionShared = omega (arith, e)
    by IntentionExclusive = omega (arith, e)
    by Shared = omega (arith, e)
    by SharedIntentionExclusive = omega (arith, e)
    by Exclusive = omega (arith, e)

  decided : (left == 0) ≡ goes_with m hs
  decided = by (goes_with m hs) refl where
    by : (b : Bool) → goes_with m hs ≡ b → (left == 0) ≡ goes_with m hs
    by true is = eq-eqb left 0 (nothing_left is) ∙ sym is
    by false is = not_yet (left == 0) refl where
      not_yet : (b : Bool) → (left == 0) ≡ b → (left == 0) ≡ goes_with m hs
      not_yet true e = absurd (true≢false (sym (goes (eqb-true left 0 e)) ∙ is))
      not_yet false e = e ∙ sym is

pub admitted : (word : ℕ) (m : Mode) (w : ℕ) (hs : List Mode) → length hs < 4096 → word ≡ waited_word w hs
    → (bit_and word (against m) == 0) ≡ goes_with m hs
admitted word m w hs few is =
    ap (λ z. bit_and z (against m) == 0) (is ∙ of_counts w hs)
    ∙ (ap (λ z. bit_and (packed w (count Exclusive hs) (count SharedIntentionExclusive hs) (count Shared hs)
    (count IntentionExclusive hs) (count IntentionShared hs)) z == 0) (of_bits m)
    ∙ (ap (λ z. z == 0) (masked w (count Exclusive hs) (count SharedIntentionExclusive hs) (count Shared hs)
    (count IntentionExclusive hs) (count IntentionShared hs) (differs Exclusive m) (differs SharedIntentionExclusive m)
    (differs Shared m) (differs IntentionExclusive m) (differs IntentionShared m) (less Exclusive)
    (less SharedIntentionExclusive) (less Shared) (less IntentionExclusive) (less IntentionShared))
    ∙ decided m hs))
  where
    less : (n : Mode) → count n hs < 2 ^ 12
    less n = let c = counted n hs in omega (arith, c, few)

pub gives_back : (m : Mode) (before after : List Mode) → GivesBack m before after
gives_back m [] after = refl
gives_back m (b ∷ before) after = let e = gives_back m before after in omega (arith, e)

unit_most : (m : Mode) → unit_of m ≤ 2 ^ 48
unit_most IntentionShared = omega arith
unit_most IntentionExclusive = omega arith
unit_most Shared = omega arith
unit_most SharedIntentionExclusive = omega arith
unit_most Exclusive = omega arith

word_most : (hs : List Mode) → word_of hs ≤ 2 ^ 48 * length hs
word_most [] = omega arith
word_most (h ∷ hs) = let a = unit_most h in let b = word_most hs in omega (arith, a, b)

pub fits : (hs : List Mode) → Fits hs
fits hs few = let a = word_most hs in omega (arith, a, few)
