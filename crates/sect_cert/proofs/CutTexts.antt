-- A text that is cut at a byte.
use Rattle.std.proofs.Common.{◌≡◌, ◌≢◌, ℕ, zero, suc, ◌+◌, ◌<◌, ◌≤◌, Bool, true, false, not, cond, List, [], ◌∷◌}
use Rattle.std.proofs.{Common.{length, get_or, take, drop, refl, sym, ◌∙◌, ap, arith}, lemmas.List.{length-take-le}}
use Rattle.std.proofs.{lemmas.List.Sums.{prefix_len-le-length}, lemmas.List.Splits.{length-slice_split}}
use Rattle.std.proofs.lemmas.Slice.Eq.{bytes_eq-Decides}
use Rattle.std.specs.{Prelude.{take_while, ◌==◌}, List.{onto_first, prefix_len}, Str.{bytes_eq}}
use Rattle.memchr.specs.Find.{is_byte, Passes, NoneBefore, Nowhere}
use Rattle.sect_cert.specs.Parts.{parts}

abbrev front_len : ℕ → List ℕ → ℕ
front_len c bs = prefix_len (λ b. not (b == c)) bs

cut_some : (c : ℕ) (bs : List ℕ) → front_len c bs < length bs
    → parts c bs ≡ take (front_len c bs) bs ∷ parts c (drop 1 (drop (front_len c bs) bs))
cut_some c [] h = absurd (omega (arith, h))
cut_some c (b ∷ bs) h = go (b == c) h (λ k. cut_some c bs k)
  where
    go : (t : Bool) → cond (not t) (1 + front_len c bs) 0 < length (b ∷ bs) →
        (front_len c bs < length bs → parts c bs ≡ take (front_len c bs) bs ∷ parts c
        (drop 1 (drop (front_len c bs) bs))) →
        cond t ([] ∷ parts c bs) (onto_first b (parts c bs)) ≡ take (cond (not t) (1 + front_len c bs) 0) (b ∷ bs)
        ∷ parts c (drop 1 (drop (cond (not t) (1 + front_len c bs) 0) (b ∷ bs)))
    go true h k = refl
    go false h k = let one : 1 + front_len c bs ≡ suc (front_len c bs) = omega arith in
        rw one (ap (onto_first b) (k (omega (arith, h))))

cut_none : (c : ℕ) (bs : List ℕ) → length bs ≤ front_len c bs → parts c bs ≡ bs ∷ []
cut_none c [] h = refl
cut_none c (b ∷ bs) h = go (b == c) h (λ k. cut_none c bs k)
  where
    go : (t : Bool) → length (b ∷ bs) ≤ cond (not t) (1 + front_len c bs) 0 →
        (length bs ≤ front_len c bs → parts c bs ≡ bs ∷ []) →
        cond t ([] ∷ parts c bs) (onto_first b (parts c bs)) ≡ (b ∷ bs) ∷ []
    go true h k = absurd (omega (arith, h))
    go false h k = ap (onto_first b) (k (omega (arith, h)))

length_front : (c : ℕ) (bs : List ℕ) → length (take_while (λ b. not (b == c)) bs) ≡ front_len c bs
length_front c bs = length-take-le (front_len c bs) bs (prefix_len-le-length (λ b. not (b == c)) bs)

-- the front ends at the first mark
first_mark : (c : ℕ) (bs : List ℕ) (k : ℕ) → k < length bs
    → ((j : ℕ) → j < k → (get_or bs j 0 == c) ≡ true → ⊥) → (get_or bs k 0 == c) ≡ true → front_len c bs ≡ k
first_mark c [] k within before here = absurd (omega (arith, within))
first_mark c (b ∷ bs) zero within before here = ap (λ t. cond (not t) (1 + front_len c bs) 0) here
first_mark c (b ∷ bs) (suc k) within before here =
    go (b == c) refl (first_mark c bs k (omega (arith, within)) (λ j lt. before (suc j) (omega (arith, lt))) here)
  where
    go : (t : Bool) → (b == c) ≡ t → front_len c bs ≡ k → cond (not t) (1 + front_len c bs) 0 ≡ suc k
    go true e more = absurd (before 0 (omega arith) e)
    go false e more = omega (arith, more)

-- it is the whole where there is none
no_mark : (c : ℕ) (bs : List ℕ) → ((j : ℕ) → j < length bs → (get_or bs j 0 == c) ≡ true → ⊥)
    → front_len c bs ≡ length bs
no_mark c [] none = refl
no_mark c (b ∷ bs) none = go (b == c) refl (no_mark c bs (λ j lt. none (suc j) (omega (arith, lt))))
  where
    go : (t : Bool) → (b == c) ≡ t → front_len c bs ≡ length bs
        → cond (not t) (1 + front_len c bs) 0 ≡ length (b ∷ bs)
    go true e more = absurd (none 0 (omega arith) e)
    go false e more = omega (arith, more)

pub found_front : (c : ℕ) (bs : List ℕ) (k : ℕ) → NoneBefore (Passes (is_byte c) bs) 0 (length bs) k
    → Passes (is_byte c) bs k → k ≡ length (take_while (λ b. not (b == c)) bs)
found_front c bs k first here =
    sym (length_front c bs ∙ first_mark c bs k first.high (λ j lt. first.before j (omega arith) lt) here)

pub missed_front : (c : ℕ) (bs : List ℕ) → Nowhere (Passes (is_byte c) bs) 0 (length bs)
    → length bs ≡ length (take_while (λ b. not (b == c)) bs)
missed_front c bs none = sym (length_front c bs ∙ no_mark c bs (λ j lt. none j (omega arith) lt))

-- a text has a part
pub some_parts : (c : ℕ) (bs : List ℕ) → parts c bs ≢ []
some_parts c bs h = absurd (omega (arith, ap length h, length-slice_split (λ b. b == c) bs))

-- a text is cut at its first mark, where it has one
pub cut_then : (c n : ℕ) (bs : List ℕ) → n ≡ length (take_while (λ b. not (b == c)) bs) → n < length bs
    → parts c bs ≡ take n bs ∷ parts c (drop 1 (drop n bs))
cut_then c n bs e h = let f : n ≡ front_len c bs = e ∙ length_front c bs in rw f (cut_some c bs (omega (arith, f, h)))

pub cut_else : (c n : ℕ) (bs : List ℕ) → n ≡ length (take_while (λ b. not (b == c)) bs) → length bs ≤ n
    → parts c bs ≡ bs ∷ []
cut_else c n bs e h = cut_none c bs (omega (arith, e, h, length_front c bs))

pub same_bytes : (a b : List ℕ) → bytes_eq a b ≡ true → a ≡ b
same_bytes a b e = (bytes_eq-Decides a b).0 e
