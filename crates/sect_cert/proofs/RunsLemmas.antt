-- Elements that numbers name.
use Rattle.std.proofs.Common.{◌≡◌, ◌≢◌, ℕ, zero, suc, ◌+◌, ◌-◌, ◌<◌, List, [], ◌∷◌, ◌++◌, Some, length, get_or, refl}
use Rattle.std.proofs.Common.{sym, ◌∙◌, ap, subst, arith, eqb, append_assoc, append-nil, IsTrue}
use Rattle.std.proofs.{lemmas.Bool.{eqb-true}, lemmas.Option.{slice_get_read}}
use Rattle.std.specs.Prelude.{slice_get}
use Rattle.sect_cert.specs.steps.Runs.{listed, numbered, AreBelow}
use Rattle.sect_cert.proofs.Counts.{at_of, last_at}

-- there are as many as numbers
pub length_numbered : {X : Type 0} (kept : List X) (ns : List ℕ) → AreBelow (length kept) ns
    → length (numbered kept ns) ≡ length ns
length_numbered kept [] h = refl
length_numbered kept (n ∷ ns) h = let at = at_of kept n h.0 in
    rw at.1 (omega (arith, length_numbered kept ns h.1))

-- the one at a place is the one that the number there names
numbered_at : {X : Type 0} (kept : List X) (ns : List ℕ) (i n : ℕ) → AreBelow (length kept) ns → i < length ns
    → n ≡ get_or ns i n → (slice_get (numbered kept ns) i ≡ slice_get kept n) × (n < length kept)
numbered_at kept [] i n h within is = absurd (omega (arith, within))
numbered_at kept (m ∷ ns) zero n h within is =
    let at = at_of kept m h.0 in
    let here : slice_get (listed (slice_get kept m) ++ numbered kept ns) zero ≡ slice_get kept m = rw at.1 refl in
    (here ∙ ap (slice_get kept) (sym is), subst (λ k. k < length kept) (sym is) h.0)
numbered_at kept (m ∷ ns) (suc i) n h within is = let at = at_of kept m h.0 in
    rw at.1 (numbered_at kept ns i n h.1 (omega (arith, within)) is)

pub run_within : {X : Type 0} (kept xs : List X) (ns : List ℕ) (i n : ℕ) → numbered kept ns ≡ xs
    → AreBelow (length kept) ns → i < length xs → n ≡ get_or ns i n → n < length kept
run_within kept xs ns i n e h within is =
    (numbered_at kept ns i n h (omega (arith, within, ap length e, length_numbered kept ns h)) is).1

pub run_at : {X : Type 0} (kept xs : List X) (ns : List ℕ) (i n : ℕ) (x : X) → numbered kept ns ≡ xs
    → AreBelow (length kept) ns → i < length xs → n ≡ get_or ns i n → x ≡ get_or kept n x → slice_get xs i ≡ Some x
run_at kept xs ns i n x e h within is there =
    let at = numbered_at kept ns i n h (omega (arith, within, ap length e, length_numbered kept ns h)) is in
    ap (λ ys. slice_get ys i) (sym e) ∙ at.0 ∙ slice_get_read kept (length kept) n x refl at.1 there

-- where two numbers are one, so are what they name
pub one_run : {X : Type 0} (kept xs : List X) (ns : List ℕ) (i j n m : ℕ) → numbered kept ns ≡ xs
    → AreBelow (length kept) ns → i < length xs → j < length xs → n ≡ get_or ns i n → m ≡ get_or ns j m
    → IsTrue (eqb n m) → slice_get xs i ≡ slice_get xs j
one_run kept xs ns i j n m e h one other is too same =
    let count = length_numbered kept ns h in
    let a = numbered_at kept ns i n h (omega (arith, one, ap length e, count)) is in
    let b = numbered_at kept ns j m h (omega (arith, other, ap length e, count)) too in
    ap (λ ys. slice_get ys i) (sym e) ∙ a.0 ∙ ap (slice_get kept) (eqb-true n m same) ∙ sym b.0
    ∙ ap (λ ys. slice_get ys j) e

there_still : {X : Type 0} (kept : List X) (x : X) (n : ℕ) → n < length kept
    → slice_get (kept ++ x ∷ []) n ≡ slice_get kept n
there_still [] x n h = absurd (omega (arith, h))
there_still (y ∷ kept) x zero h = refl
there_still (y ∷ kept) x (suc n) h = there_still kept x n (omega (arith, h))

-- one more that no number names
pub kept_more : {X : Type 0} (kept : List X) (x : X) (ns : List ℕ) → AreBelow (length kept) ns
    → numbered (kept ++ x ∷ []) ns ≡ numbered kept ns
kept_more kept x [] h = refl
kept_more kept x (n ∷ ns) h =
    ap (λ o. listed o ++ numbered (kept ++ x ∷ []) ns) (there_still kept x n h.0)
    ∙ ap (λ ys. listed (slice_get kept n) ++ ys) (kept_more kept x ns h.1)

pub below_more : (k : ℕ) (ns : List ℕ) (n : ℕ) → AreBelow k ns → n < k + 1 → AreBelow (k + 1) (ns ++ n ∷ [])
below_more k [] n h g = (g, tt)
below_more k (m ∷ ns) n h g = (omega (arith, h.0), below_more k ns n h.1 g)

numbers_more : {X : Type 0} (kept : List X) (ns : List ℕ) (n : ℕ)
    → numbered kept (ns ++ n ∷ []) ≡ numbered kept ns ++ listed (slice_get kept n)
numbers_more kept [] n = append-nil (listed (slice_get kept n))
numbers_more kept (m ∷ ns) n =
    ap (λ ys. listed (slice_get kept m) ++ ys) (numbers_more kept ns n)
    ∙ sym (append_assoc (listed (slice_get kept m)) (numbered kept ns) (listed (slice_get kept n)))

-- one more that the last number names
pub run_pushed : {X : Type 0} (kept : List X) (x : X) (ns : List ℕ) → AreBelow (length kept) ns
    → numbered (kept ++ x ∷ []) (ns ++ length kept ∷ []) ≡ numbered kept ns ++ x ∷ []
run_pushed kept x ns h =
    numbers_more (kept ++ x ∷ []) ns (length kept)
    ∙ ap (λ o. numbered (kept ++ x ∷ []) ns ++ listed o) (last_at kept x)
    ∙ ap (λ ys. ys ++ x ∷ []) (kept_more kept x ns h)

some_numbers : {X : Type 0} (kept xs : List X) (ns : List ℕ) → numbered kept ns ≡ xs → xs ≢ [] → 0 < length ns
some_numbers kept xs [] e h = absurd (h (sym e))
some_numbers kept xs (n ∷ ns) e h = omega arith

-- the last number once more
pub run_again : {X : Type 0} (kept xs : List X) (ns : List ℕ) (count n : ℕ) (last : X)
    → numbered kept ns ≡ xs
    → AreBelow (length kept) ns → xs ≢ [] → count ≡ length ns → n ≡ get_or ns (count - 1) n
    → slice_get xs (length xs - 1) ≡ Some last → numbered kept (ns ++ n ∷ []) ≡ xs ++ last ∷ []
run_again kept xs ns count n last e h some all is there =
    let within = some_numbers kept xs ns e some in
    let at = numbered_at kept ns (count - 1) n h (omega (arith, within, all)) is in
    let place : length xs - 1 ≡ count - 1 = omega (arith, length_numbered kept ns h, ap length e, all) in
    numbers_more kept ns n
    ∙ ap (λ ys. ys ++ listed (slice_get kept n)) e
    ∙ ap (λ o. xs ++ listed o)
    (sym at.0 ∙ ap (λ ys. slice_get ys (count - 1)) e ∙ ap (slice_get xs) (sym place) ∙ there)
