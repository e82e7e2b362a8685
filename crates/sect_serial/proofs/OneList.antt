-- The list of outcomes is one.
use Rattle.std.proofs.Common.{◌≡◌, ◌⊎◌, inl, inr, ℕ, ◌<◌, List, [], ◌∷◌, refl, sym, ap, subst}
use Rattle.std.proofs.Common.{◌∙◌, arith, length}
use Rattle.std.proofs.lemmas.Bool.{cases_lt}
use Rattle.sect_lemmas.specs.Lists.{Has}
use Rattle.sect_lemmas.proofs.{Membership.{Has-unmap}, Distinct.{no_longer}}
use Rattle.sect_types.specs.{Programs.{ProgramView}, Whole.{SerialEndView, RunsWhole}}
use Rattle.sect_serial.specs.Exploring.{Found, IsLess, IsBefore, AreRising, AreOutcomes, HasStates, OutcomesAreOne}
use Rattle.sect_serial.proofs.Shortlex.{before_transitive, before_itself}

-- of two orders that are as long one is less, or they are one
less_or_same : (v w : List ℕ) → length v ≡ length w → IsLess v w ⊎ ((v ≡ w) ⊎ IsLess w v)
less_or_same [] [] e = inr (inl refl)
less_or_same [] (y ∷ w) e = absurd (omega (arith, e))
less_or_same (x ∷ v) [] e = absurd (omega (arith, e))
less_or_same (x ∷ v) (y ∷ w) e = elim (cases_lt x y) [
  | inl lt ↦ inl (inl lt)
  | inr le ↦ elim (cases_lt y x) [
    | inl gt ↦ inr (inr (inl gt))
    | inr ge ↦
        let same : x ≡ y = omega (arith, le, ge) in
        elim (less_or_same v w (omega (arith, e))) [
          | inl a ↦ inl (inr (same, a))
          | inr b ↦ elim b [
            | inl c ↦ inr (inl (ap (λ z. z ∷ v) same ∙ ap (λ zs. y ∷ zs) c))
            | inr d ↦ inr (inr (inr (sym same, d)))
          ]
        ]
  ]
]

-- orders of which neither comes before the other are one
one_order : (v w : List ℕ) → (IsBefore v w → ⊥) → (IsBefore w v → ⊥) → v ≡ w
one_order v w not other = elim (cases_lt (length v) (length w)) [
  | inl lt ↦ absurd (not (inl lt))
  | inr le ↦ elim (cases_lt (length w) (length v)) [
    | inl gt ↦ absurd (other (inl gt))
    | inr ge ↦
        let same : length v ≡ length w = omega (arith, le, ge) in
        elim (less_or_same v w same) [
          | inl a ↦ absurd (not (inr (same, a)))
          | inr b ↦ elim b [
            | inl c ↦ c
            | inr d ↦ absurd (other (inr (sym same, d)))
          ]
        ]
  ]
]

module _ {X : Type 0} where
  -- none behind the first is the first
  not_first : (x z : X × List ℕ) (xs : List (X × List ℕ)) → AreRising (x ∷ xs) → Has xs z → x ≡ z → ⊥
  not_first x z xs rising h same =
      before_itself z.1 (subst (λ (w : X × List ℕ). IsBefore w.1 z.1) same (rising.0 z h))

  -- rising lists of the same elements are one
  same_rising : (xs ys : List (X × List ℕ)) → AreRising xs → AreRising ys
      → ((x : X × List ℕ) → Has xs x → Has ys x) → ((x : X × List ℕ) → Has ys x → Has xs x) → xs ≡ ys
  same_rising [] [] a b f g = refl
  same_rising [] (y ∷ ys) a b f g = absurd (g y (inl refl))
  same_rising (x ∷ xs) [] a b f g = absurd (f x (inl refl))
  same_rising (x ∷ xs) (y ∷ ys) a b f g =
      ap (λ (z : X × List ℕ). z ∷ xs) same ∙ ap (λ zs. y ∷ zs) (same_rising xs ys a.1 b.1 there back)
    where
      same : x ≡ y
      same = elim (f x (inl refl)) [
        | inl e ↦ sym e
        | inr h ↦ elim (g y (inl refl)) [
          | inl e ↦ e
          | inr k ↦ absurd (before_itself x.1 (before_transitive x.1 y.1 x.1 (a.0 y k) (b.0 x h)))
        ]
      ]

      there : (z : X × List ℕ) → Has xs z → Has ys z
      there z h = elim (f z (inr h)) [
        | inl e ↦ absurd (not_first x z xs a h (same ∙ e))
        | inr k ↦ k
      ]

      back : (z : X × List ℕ) → Has ys z → Has xs z
      back z h = elim (g z (inr h)) [
        | inl e ↦ absurd (not_first y z ys b h (sym same ∙ e))
        | inr k ↦ k
      ]

pair_same : {X Y : Type 0} (x y : X × Y) → x.0 ≡ y.0 → x.1 ≡ y.1 → x ≡ y
pair_same (a, b) (c, d) first second = cc

module _ (p : ProgramView) (fuel : ℕ) where
  -- an outcome of one list is one of the other
  in_other : (xs ys : Found) → AreOutcomes p fuel xs → AreOutcomes p fuel ys → (x : SerialEndView × List ℕ) → Has xs x
      → Has ys x
  in_other xs ys mine theirs x h =
      let whole = mine.right x h in
      let there = Has-unmap (λ (y : SerialEndView × List ℕ). y.0) ys x.0 (theirs.complete x.1 x.0 whole) in
      let y = there.0 in
      let order = one_order y.1 x.1
      (mine.first x h y.1 (subst (RunsWhole p fuel y.1) there.2 (theirs.right y there.1)))
      (theirs.first y there.1 x.1 (subst (RunsWhole p fuel x.1) (sym there.2) whole)) in
      subst (Has ys) (pair_same y x there.2 order) there.1

  not_more : (n m : ℕ) → HasStates p fuel n → HasStates p fuel m → n < m → ⊥
  not_more n m few many lt = no_longer many.0 few.0 many.2 (λ s h. (few.3 s).1 ((many.3 s).0 h))
      (let e = few.1 in let d = many.1 in omega (arith, e, d, lt))

  one_count : (n m : ℕ) → HasStates p fuel n → HasStates p fuel m → n ≡ m
  one_count n m few many = elim (cases_lt n m) [
    | inl lt ↦ absurd (not_more n m few many lt)
    | inr le ↦ elim (cases_lt m n) [
      | inl gt ↦ absurd (not_more m n many few gt)
      | inr ge ↦ omega (arith, le, ge)
    ]
  ]

pub outcomes_are_one : OutcomesAreOne
outcomes_are_one p fuel most o q mine theirs =
    let found = same_rising o.found q.found mine.outcomes.rising theirs.outcomes.rising
    (in_other p fuel o.found q.found mine.outcomes theirs.outcomes)
    (in_other p fuel q.found o.found theirs.outcomes mine.outcomes) in
    let states = one_count p fuel o.states q.states mine.states theirs.states in
    ap (λ n. record { states = n; found = o.found }) states ∙ ap (λ fs. record { states = q.states; found = fs }) found
