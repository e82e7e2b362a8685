-- Nodes that wait.
use Rattle.std.proofs.Common.{◌≡◌, ◌↔◌, ◌⊎◌, inl, inr, ℕ, zero, suc, ◌+◌, ◌<◌, ◌≤◌, List, [], ◌∷◌, ◌++◌, length, refl}
use Rattle.std.proofs.{Common.{sym, ap, ◌∙◌, arith}, lemmas.Bool.{cases_eq}, lemmas.List.{append-nil}}
use Rattle.std.proofs.lemmas.Map.Lookups.{exact_unsigned}
use Rattle.std.specs.{List.{range_with_len, AllByRecursion}, List.Sorted.{IsStrictlySortedBy}, Cmp.{nat_cmp_is}}
use Rattle.std.specs.{declared.cmp.Ordering.TheVariants.{Less}, BTreeSet.{insert_key}, Ordering.{nat_cmp}}
use Rattle.sect_lemmas.proofs.{Membership.{Has-left, Has-right, Has-cases}, Inserting.{put_key}, Listing.{range_more}}
use Rattle.sect_lemmas.specs.Lists.{Has}

-- one node more waits
pub put_node : (nodes : List ℕ) (n m : ℕ) → Has (insert_key nat_cmp nodes n) m ↔ (Has nodes m ⊎ (m ≡ n))
put_node = put_key nat_cmp exact_unsigned

-- no node waits
pub none_left : (nodes : List ℕ) → (0 < length nodes → ⊥) → nodes ≡ []
none_left [] n = refl
none_left (x ∷ nodes) n = absurd (n (omega arith))

-- the numbers of a range
pub in_range : (a n i : ℕ) → Has (range_with_len a n) i ↔ ((a ≤ i) × (i < a + n))
in_range a zero i = (λ h. absurd h, λ h. absurd (let x = h.0 in let y = h.1 in omega (arith, x, y)))
in_range a (suc n) i = (
  λ h. elim h [
    | inl e ↦ (omega (arith, e), omega (arith, e))
    | inr k ↦ (let r = (in_range (a + 1) n i).0 k in
        let x = r.0 in let y = r.1 in (omega (arith, x), omega (arith, y)))
  ],
  λ h. (let x = h.0 in let y = h.1 in
      elim (cases_eq a i) [
        | inl e ↦ inl e
        | inr m ↦ inr ((in_range (a + 1) n i).1 (omega (arith, x, m), omega (arith, y)))
      ]),
)

-- numbers in order: a lesser one before others, and a range before those that are no less than its end
sorted_before : (x : ℕ) (xs : List ℕ) → ((y : ℕ) → Has xs y → x < y) → IsStrictlySortedBy nat_cmp xs
    → IsStrictlySortedBy nat_cmp (x ∷ xs)
unfolding IsStrictlySortedBy
sorted_before x xs less rest = (before xs less, rest)
  where
    before : (ys : List ℕ) → ((y : ℕ) → Has ys y → x < y) → AllByRecursion (λ y. nat_cmp x y ≡ Less) ys
    before [] h = tt
    before (y ∷ ys) h = (sym (nat_cmp_is x y Less (h y (inl refl))), before ys (λ z k. h z (inr k)))

pub sorted_range : (a n : ℕ) (xs : List ℕ) → ((y : ℕ) → Has xs y → a + n ≤ y) → IsStrictlySortedBy nat_cmp xs
    → IsStrictlySortedBy nat_cmp (range_with_len a n ++ xs)
sorted_range a zero xs from sorted = sorted
sorted_range a (suc n) xs from sorted =
    sorted_before a (range_with_len (a + 1) n ++ xs)
    (λ y h. elim (Has-cases (range_with_len (a + 1) n) xs y h) [
      | inl k ↦ (let r = (in_range (a + 1) n y).0 k in let x = r.0 in omega (arith, x))
      | inr k ↦ (let f = from y k in omega (arith, f))
    ])
    (sorted_range (a + 1) n xs (λ y h. let f = from y h in omega (arith, f)) sorted)

-- the last of a range is taken out, where there are no others
pub range_popped : (below less : ℕ) (old new : List ℕ) → below ≡ less + 1 → old ≡ [] → new ≡ []
    → range_with_len 0 below ++ old ≡ (range_with_len 0 less ++ new) ++ less ∷ []
range_popped below less old new e none empty =
    let next : below ≡ suc less = omega (arith, e) in
    ap (λ n. range_with_len 0 n ++ old) next ∙ ap (λ xs. range_with_len 0 (suc less) ++ xs) none
    ∙ append-nil (range_with_len 0 (suc less)) ∙ range_more 0 less
    ∙ ap (λ n. range_with_len 0 less ++ n ∷ []) (omega arith)
    ∙ ap (λ xs. xs ++ less ∷ [])
    (sym (ap (λ xs. range_with_len 0 less ++ xs) empty ∙ append-nil (range_with_len 0 less)))

-- one number more behind a range
pub put_behind : (below n : ℕ) (old new : List ℕ) → ((i : ℕ) → Has new i ↔ (Has old i ⊎ (i ≡ n))) → (i : ℕ)
    → Has (range_with_len 0 below ++ new) i ↔ (Has (range_with_len 0 below ++ old) i ⊎ (i ≡ n))
put_behind below n old new more i = (
  λ h. elim (Has-cases (range_with_len 0 below) new i h) [
    | inl k ↦ inl (Has-left (range_with_len 0 below) old i k)
    | inr k ↦ elim ((more i).0 k) [ inl m ↦ inl (Has-right (range_with_len 0 below) old i m) | inr e ↦ inr e ]
  ],
  λ h. elim h [
    | inl k ↦ elim (Has-cases (range_with_len 0 below) old i k) [
      | inl m ↦ Has-left (range_with_len 0 below) new i m
      | inr m ↦ Has-right (range_with_len 0 below) new i ((more i).1 (inl m))
    ]
    | inr e ↦ Has-right (range_with_len 0 below) new i ((more i).1 (inr e))
  ],
)
