-- Pairs of sections, one after another.
use Rattle.std.proofs.Common.{◌≡◌, ◌⊎◌, ℕ, ◌+◌, ◌≤◌, ◌++◌, List, [], ◌∷◌, length, refl, sym, subst, ◌∙◌, inl, inr}
use Rattle.std.proofs.{Common.{arith}, lemmas.Bool.{cases_lt}, lemmas.Option.{slice_get_within}}
use Rattle.sect_lemmas.specs.Lists.{Has}
use Rattle.sect_lemmas.proofs.Inserting.{behind}
use Rattle.sect_types.specs.Sections.{sections_of}
use Rattle.sect_emit.specs.Compiled.{CompiledView, program_of}
use Rattle.sect_conflicts.specs.{declared.conflict.SectionPair.{SectionPair}, Conflicts.{IsConflict}}
use Rattle.sect_conflicts.specs.Comparing.{AreCompared, IsPairBefore, ArePairsInOrder, AreConflicts}
use Rattle.sect_conflicts.specs.steps.Progress.{AreConflictsBefore}

-- a pair that comes behind the others
order_more : (pairs : List SectionPair) (x : SectionPair) → ArePairsInOrder pairs
    → ((p : SectionPair) → Has pairs p → IsPairBefore p.first p.second x.first x.second)
    → ArePairsInOrder (pairs ++ x ∷ [])
order_more [] x up before = ((λ q h. absurd h), tt)
order_more (p ∷ pairs) x up before = (
  (λ q h. elim ((behind pairs x q).0 h) [
    | inl a ↦ up.0 q a
    | inr e ↦ subst (λ (y : SectionPair). IsPairBefore p.first p.second y.first y.second) (sym e) (before p (inl refl))
  ]),
  order_more pairs x up.1 (λ q h. before q (inr h)),
)

-- the pair of i and j comes before that of i and the next number
one_more : (i j m n : ℕ) → IsPairBefore m n i j → IsPairBefore m n i (j + 1)
one_more i j m n (inl lt) = inl lt
one_more i j m n (inr (e, lt)) = inr (e, omega (arith, lt))

-- and no pair stands between them
none_between : (i j m n : ℕ) → IsPairBefore m n i (j + 1) → IsPairBefore m n i j ⊎ ((m ≡ i) × (n ≡ j))
none_between i j m n (inl lt) = inl (inl lt)
none_between i j m n (inr (e, lt)) = elim (cases_lt n j) [
  | inl before ↦ inl (inr (e, before))
  | inr past ↦ inr (e, omega (arith, lt, past))
]

nothing_first : (m n : ℕ) → IsPairBefore m n 0 0 → ⊥
nothing_first m n (inl lt) = omega (arith, lt)
nothing_first m n (inr (e, lt)) = omega (arith, lt)

module _ (c : CompiledView) where
  abbrev count : ℕ
  count = length (sections_of (program_of c).texts)

  -- before the first pair there is none
  pub nothing_yet : AreConflictsBefore c 0 0 []
  nothing_yet = record {
    each = λ p h. absurd h;
    all = λ m n compared before. absurd (nothing_first m n before);
    order = tt;
    before = λ p h. absurd h;
  }

  module _ (i j : ℕ) (pairs : List SectionPair) (so_far : AreConflictsBefore c i j pairs) where
    -- two sections that aren't compared are passed
    pub passed : (AreCompared c i j → ⊥) → AreConflictsBefore c i (j + 1) pairs
    passed never = record {
      each = so_far.each;
      all = λ m n compared before. elim (none_between i j m n before) [
        | inl b ↦ so_far.all m n compared b
        | inr e ↦ absurd (never (subst (λ x. AreCompared c x j) e.0 (subst (AreCompared c m) e.1 compared)))
      ];
      order = so_far.order;
      before = λ p h. one_more i j p.first p.second (so_far.before p h);
    }

    -- two that are compared come to the list
    pub compared : (x : SectionPair) (new : List SectionPair) → new ≡ pairs ++ x ∷ [] → x.first ≡ i → x.second ≡ j
        → AreCompared c i j → IsConflict c i j x.conflict → AreConflictsBefore c i (j + 1) new
    compared x new is first second are told = subst (AreConflictsBefore c i (j + 1)) (sym is) (record {
      each = λ p h. elim ((behind pairs x p).0 h) [ inl a ↦ so_far.each p a | inr e ↦ each_new p e ];
      all = λ m n pair before. elim (none_between i j m n before) [
        | inl b ↦ (let f = so_far.all m n pair b in (f.0, (behind pairs x f.0).1 (inl f.1), f.2, f.3))
        | inr e ↦ (x, (behind pairs x x).1 (inr refl), first ∙ sym e.0, second ∙ sym e.1)
      ];
      order = order_more pairs x so_far.order (λ p h. subst (λ a. IsPairBefore p.first p.second a x.second) (sym first)
          (subst (IsPairBefore p.first p.second i) (sym second) (so_far.before p h)));
      before = λ p h. elim ((behind pairs x p).0 h) [
        | inl a ↦ one_more i j p.first p.second (so_far.before p a)
        | inr e ↦ subst (λ (y : SectionPair). IsPairBefore y.first y.second i (j + 1)) (sym e)
            (inr (first, omega (arith, second)))
      ];
    })
      where
        each_new : (p : SectionPair) → p ≡ x
            → AreCompared c p.first p.second × IsConflict c p.first p.second p.conflict
        each_new p e = subst (λ (y : SectionPair). AreCompared c y.first y.second
            × IsConflict c y.first y.second y.conflict) (sym e) (
              subst (λ a. AreCompared c a x.second) (sym first) (subst (AreCompared c i) (sym second) are),
              subst (λ a. IsConflict c a x.second x.conflict) (sym first)
                  (subst (λ b. IsConflict c i b x.conflict) (sym second) told),
            )

  -- a section is compared with those of greater numbers
  pub row_begins : (i : ℕ) (pairs : List SectionPair) → AreConflictsBefore c i 0 pairs
      → AreConflictsBefore c i (i + 1) pairs
  row_begins i pairs so_far = record {
    each = so_far.each;
    all = λ m n compared before. so_far.all m n compared (by m n compared before);
    order = so_far.order;
    before = λ p h. back p.first p.second (so_far.before p h);
  }
    where
      by : (m n : ℕ) → AreCompared c m n → IsPairBefore m n i (i + 1) → IsPairBefore m n i 0
      by m n compared (inl lt) = inl lt
      by m n compared (inr (e, lt)) = absurd (omega (arith, e, lt, compared.lesser))

      back : (m n : ℕ) → IsPairBefore m n i 0 → IsPairBefore m n i (i + 1)
      back m n (inl lt) = inl lt
      back m n (inr (e, lt)) = absurd (omega (arith, lt))

  -- and there are no others
  pub row_ends : (i n : ℕ) (pairs : List SectionPair) → count ≤ n → AreConflictsBefore c i n pairs
      → AreConflictsBefore c (i + 1) 0 pairs
  row_ends i n pairs past so_far = record {
    each = so_far.each;
    all = λ m k compared before. so_far.all m k compared (by m k compared before);
    order = so_far.order;
    before = λ p h. back p.first p.second (so_far.before p h);
  }
    where
      by : (m k : ℕ) → AreCompared c m k → IsPairBefore m k (i + 1) 0 → IsPairBefore m k i n
      by m k compared (inl lt) = elim (cases_lt m i) [
        | inl before ↦ inl before
        | inr at ↦ (let within = slice_get_within (sections_of (program_of c).texts) k compared.other compared.second in
            inr (omega (arith, lt, at), omega (arith, within, past)))
      ]
      by m k compared (inr (e, lt)) = absurd (omega (arith, lt))

      back : (m k : ℕ) → IsPairBefore m k i n → IsPairBefore m k (i + 1) 0
      back m k (inl lt) = inl (omega (arith, lt))
      back m k (inr (e, lt)) = inl (omega (arith, e))

  -- past the last section all pairs are there
  pub all_compared : (n : ℕ) (pairs : List SectionPair) → count ≤ n → AreConflictsBefore c n 0 pairs
      → AreConflicts c pairs
  all_compared n pairs past so_far = record {
    each = so_far.each;
    all = λ m k compared. (let within = slice_get_within (sections_of (program_of c).texts) m compared.one
        compared.first
        in so_far.all m k compared (inl (omega (arith, within, past))));
    order = so_far.order;
  }
