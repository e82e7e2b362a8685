-- Without recursion no chain of calls is longer than there are procedures.
use Rattle.std.specs.Prelude.{◌||◌, ◌-◌, ◌<◌, Bool, true, false, is_some, nat_eq, eqb, ◌≤◌}
use Rattle.std.specs.List.{list_any, AllByRecursion, IsDistinct}
use Rattle.std.proofs.Common.{◌≡◌, inl, inr, ℕ, zero, suc, ◌+◌, List, [], ◌∷◌, Option, Some, None, refl, arith, subst}
use Rattle.std.proofs.Common.{length, slice_get, sym}
use Rattle.std.proofs.{lemmas.Option.{slice_get_within}, lemmas.Map.Steps.{length-le_from_distinct_below}}
use Rattle.std.proofs.lemmas.Bool.{or_left, or_right, or_parts, eqb-true, eqb-false, or_cases, cases_Bool}
use Rattle.sect_front.specs.declared.tree.Procedure.{Procedure}
use Rattle.sect_types.specs.Sums.{calls_in, sums, sums_at, sums_within}
use Rattle.sect_types.specs.steps.Search.{reaches, returns}
use Rattle.sect_types.proofs.FuelLaws.{chain, one_more}

pub same : (n : ℕ) → eqb n n ≡ true
same n = elim (cases_Bool (eqb n n)) [ inl e ↦ e | inr e ↦ absurd (eqb-false n n e refl) ]

-- one of which the test holds
pub witness : (f : ℕ → Bool) (xs : List ℕ) → list_any f xs ≡ true
    → (r : ℕ) × (f r ≡ true) × (list_any (eqb r) xs ≡ true)
witness f [] h = absurd (let off : false ≡ true = h in cc)
witness f (x ∷ xs) h = elim (or_cases (f x) (list_any f xs) h) [
  | inl e ↦ (x, e, or_left (eqb x x) (list_any (eqb x) xs) (same x))
  | inr e ↦ (let w = witness f xs e in (w.0, w.1, or_right (eqb w.0 x) (list_any (eqb w.0) xs) w.2))
]

pub holds : (f : ℕ → Bool) (xs : List ℕ) (r : ℕ) → f r ≡ true → list_any (eqb r) xs ≡ true → list_any f xs ≡ true
holds f [] r e h = absurd (let off : false ≡ true = h in cc)
holds f (x ∷ xs) r e h = elim (or_cases (eqb r x) (list_any (eqb r) xs) h) [
  | inl i ↦ or_left (f x) (list_any f xs) (subst (λ y. f y ≡ true) (eqb-true r x i) e)
  | inr i ↦ or_right (f x) (list_any f xs) (holds f xs r e i)
]

-- p is called in q
abbrev pub Calls : List Procedure → ℕ → ℕ → Type 0
Calls ps q r = list_any (eqb r) (calls_in ps (slice_get ps q)) ≡ true

pub reaches_step : (n : ℕ) (ps : List Procedure) (q r p : ℕ) → Calls ps q r → (nat_eq r p || reaches n ps r p) ≡ true
    → reaches (suc n) ps q p ≡ true
reaches_step n ps q r p c e = holds (λ s. nat_eq s p || reaches n ps s p) (calls_in ps (slice_get ps q)) r e c

-- more calls are allowed
pub reaches_more : (n : ℕ) (ps : List Procedure) (q p : ℕ) → reaches n ps q p ≡ true → reaches (suc n) ps q p ≡ true
reaches_more zero ps q p h = absurd (let off : false ≡ true = h in cc)
reaches_more (suc n) ps q p h =
    let w = witness (λ s. nat_eq s p || reaches n ps s p) (calls_in ps (slice_get ps q)) h in
    elim (or_cases (nat_eq w.0 p) (reaches n ps w.0 p) w.1) [
      | inl e ↦ reaches_step (suc n) ps q w.0 p w.2 (or_left (nat_eq w.0 p) (reaches (suc n) ps w.0 p) e)
      | inr e ↦ reaches_step (suc n) ps q w.0 p w.2
          (or_right (nat_eq w.0 p) (reaches (suc n) ps w.0 p) (reaches_more n ps w.0 p e))
    ]

pub reaches_up : (d n m : ℕ) (ps : List Procedure) (q p : ℕ) → m ≡ d + n → reaches n ps q p ≡ true
    → reaches m ps q p ≡ true
reaches_up zero n m ps q p e h = subst (λ k. reaches k ps q p ≡ true) (omega (arith, e)) h
reaches_up (suc d) n m ps q p e h = reaches_up d (suc n) m ps q p (omega (arith, e)) (reaches_more n ps q p h)

-- one more call at the end
pub reaches_on : (n : ℕ) (ps : List Procedure) (x q r : ℕ) → reaches n ps x q ≡ true → Calls ps q r
    → reaches (suc n) ps x r ≡ true
reaches_on zero ps x q r h c = absurd (let off : false ≡ true = h in cc)
reaches_on (suc n) ps x q r h c =
    let w = witness (λ s. nat_eq s q || reaches n ps s q) (calls_in ps (slice_get ps x)) h in
    elim (or_cases (nat_eq w.0 q) (reaches n ps w.0 q) w.1) [
      | inl e ↦ reaches_step (suc n) ps x w.0 r w.2 (or_right (nat_eq w.0 r) (reaches (suc n) ps w.0 r)
          (reaches_step n ps w.0 r r (subst (λ y. Calls ps y r) (sym (eqb-true w.0 q e)) c)
          (or_left (nat_eq r r) (reaches n ps r r) (same r))))
      | inr e ↦ reaches_step (suc n) ps x w.0 r w.2
          (or_right (nat_eq w.0 r) (reaches (suc n) ps w.0 r) (reaches_on n ps w.0 q r e c))
    ]

-- no call in a procedure is of one that is it or reaches it
abbrev pub IsAcyclic : List Procedure → Type 0
IsAcyclic ps = (p s : ℕ) → Calls ps p s → returns ps p s ≡ true → ⊥

-- no procedure reaches itself within as many calls as there are procedures
no_return : (n : ℕ) (ps : List Procedure) (q : ℕ) → IsAcyclic ps → n ≤ length ps → reaches n ps q q ≡ true → ⊥
no_return zero ps q a le h = absurd (let off : false ≡ true = h in cc)
no_return (suc n) ps q a le h =
    let w = witness (λ s. nat_eq s q || reaches n ps s q) (calls_in ps (slice_get ps q)) h in
    a q w.0 w.2 (elim (or_cases (nat_eq w.0 q) (reaches n ps w.0 q) w.1) [
      | inl e ↦ or_left (nat_eq w.0 q) (reaches (length ps) ps w.0 q) e
      | inr e ↦ or_right (nat_eq w.0 q) (reaches (length ps) ps w.0 q)
          (reaches_up (length ps - n) n (length ps) ps w.0 q (omega (arith, le)) e)
    ])

pub calls_there : (ps : List Procedure) (o : Option Procedure) (r : ℕ) → list_any (eqb r) (calls_in ps o) ≡ true
    → is_some o ≡ true
calls_there ps None r h = absurd (let off : false ≡ true = h in cc)
calls_there ps (Some p) r h = refl

pub there : (ps : List Procedure) (q : ℕ) (o : Option Procedure) → slice_get ps q ≡ o → is_some o ≡ true → q < length ps
there ps q None e h = absurd (let off : false ≡ true = h in cc)
there ps q (Some p) e h = slice_get_within ps q p e

pub none_equal : (q : ℕ) (xs : List ℕ) → list_any (eqb q) xs ≡ false → AllByRecursion (λ y. eqb q y ≡ false) xs
none_equal q [] h = tt
none_equal q (x ∷ xs) h = (let s = or_parts (eqb q x) (list_any (eqb q) xs) h in (s.0, none_equal q xs s.1))

-- those that have been passed differ, are procedures, and reach q
pub record IsWay (ps : List Procedure) (xs : List ℕ) (q : ℕ) : Type 0 where
  pub differ : IsDistinct eqb xs
  pub below : (x : ℕ) → list_any (eqb x) xs ≡ true → x < length ps
  pub reach : (x : ℕ) → list_any (eqb x) xs ≡ true → reaches (length xs) ps x q ≡ true

-- q is passed too
longer_differ : (ps : List Procedure) (xs : List ℕ) (q : ℕ) → IsAcyclic ps → IsWay ps xs q → IsDistinct eqb (q ∷ xs)
unfolding IsDistinct
longer_differ ps xs q a w = elim (cases_Bool (list_any (eqb q) xs)) [
  | inl e ↦ absurd (no_return (length xs) ps q a (length-le_from_distinct_below xs (length ps) w.differ w.below)
      (w.reach q e))
  | inr e ↦ (none_equal q xs e, w.differ)
]

longer_below : (ps : List Procedure) (xs : List ℕ) (q : ℕ) → IsWay ps xs q → q < length ps → (x : ℕ)
    → list_any (eqb x) (q ∷ xs) ≡ true → x < length ps
longer_below ps xs q w lt x h = elim (or_cases (eqb x q) (list_any (eqb x) xs) h) [
  | inl e ↦ subst (λ y. y < length ps) (sym (eqb-true x q e)) lt
  | inr e ↦ w.below x e
]

longer : (ps : List Procedure) (xs : List ℕ) (q r : ℕ) → IsAcyclic ps → IsWay ps xs q → q < length ps → Calls ps q r
    → IsWay ps (q ∷ xs) r
longer ps xs q r a w lt c = record {
  differ = longer_differ ps xs q a w;
  below = longer_below ps xs q w lt;
  reach = λ x h. elim (or_cases (eqb x q) (list_any (eqb x) xs) h) [
    | inl e ↦ subst (λ y. reaches (length (q ∷ xs)) ps y r ≡ true) (sym (eqb-true x q e))
        (reaches_step (length xs) ps q r r c (or_left (nat_eq r r) (reaches (length xs) ps r r) (same r)))
    | inr e ↦ reaches_on (length xs) ps x q r (w.reach x e) c
  ];
}

pub ends : (n : ℕ) (ps : List Procedure) (xs : List ℕ) (q : ℕ) → IsAcyclic ps → IsWay ps xs q
    → length ps ≤ length xs + n → chain n ps (Some q) ≡ true → ⊥
ends zero ps xs q a w le h =
    omega (
      arith,
      le,
      length-le_from_distinct_below (q ∷ xs) (length ps) (longer_differ ps xs q a w)
          (longer_below ps xs q w (there ps q (slice_get ps q) refl h)),
    )
ends (suc n) ps xs q a w le h =
    let v = witness (λ r. chain n ps (Some r)) (calls_in ps (slice_get ps q)) h in
    let lt = there ps q (slice_get ps q) refl (calls_there ps (slice_get ps q) v.0 v.2) in
    ends n ps (q ∷ xs) v.0 a (longer ps xs q v.0 a w lt v.2) (omega (arith, le)) v.1

pub no_way : (ps : List Procedure) (q : ℕ) → IsWay ps [] q
unfolding IsDistinct
no_way ps q = record {
  differ = tt;
  below = λ x h. absurd (let off : false ≡ true = h in cc);
  reach = λ x h. absurd (let off : false ≡ true = h in cc);
}

-- without recursion there is no chain of as many calls as there are procedures, so that the sums are enough
pub enough : (ps : List Procedure) (q : ℕ) → IsAcyclic ps
    → sums_at (sums_within (suc (length ps)) ps) (Some q) ≡ sums_at (sums ps) (Some q)
enough ps q a = elim (cases_Bool (chain (length ps) ps (Some q))) [
  | inl e ↦ absurd (ends (length ps) ps [] q a (no_way ps q) (omega arith) e)
  | inr e ↦ one_more (length ps) ps (Some q) e
]
