-- Ranks, and the ways that they tell of.
use Rattle.std.proofs.Common.{◌≡◌, ◌⊎◌, ◌<◌, ◌≤◌, ◌+◌, ℕ, zero, suc, Bool, true, false, List, [], ◌∷◌, length, set}
use Rattle.std.proofs.Common.{get_or, refl, sym, ◌∙◌, ap, subst, inl, inr, arith}
use Rattle.std.proofs.Common.{get_or-set_same, get_or-set_other}
use Rattle.std.proofs.lemmas.{Bool.{ltb-true, lt-ltb, cases_lt, cases_eq, cases_Bool}, List.{length-set}}
use Rattle.std.proofs.lemmas.List.Sums.{count_by-le-length, sum_by-set, sum_by-cons}
use Rattle.std.specs.{Prelude.{cond, nat_lt}, List.{count_by}}
use Rattle.sect_endings.specs.{Graphs.{GraphView}, steps.Sets.{In, IsWay, Reaches, rank_of, LeadsBelow}}
use Rattle.sect_endings.specs.steps.Sets.{Joins, JoinsNow, AreRanks, AreAllRanks}
use Rattle.sect_endings.proofs.Going.{go_state}

most_one : (b : Bool) → cond {A = ℕ} b 1 0 ≤ 1
most_one true = omega arith
most_one false = omega arith

-- one more element is of the kind
pub count_set : {X : Type 0} (p : X → Bool) (xs : List X) (i : ℕ) (x d : X) → i < length xs
    → p (get_or xs i d) ≡ false → p x ≡ true → count_by p (set xs i x) ≡ count_by p xs + 1
count_set p xs i x d lt e f =
    let step : count_by p (set xs i x) + cond {A = ℕ} (p (get_or xs i d)) 1 0 ≡ count_by p xs + cond {A = ℕ} (p x) 1 0 =
    sum_by-set (λ y. cond (p y) 1 0) xs i x d lt in
    let old : cond {A = ℕ} (p (get_or xs i d)) 1 0 ≡ 0 = ap (λ b. cond b 1 0) e in
    let new : cond {A = ℕ} (p x) 1 0 ≡ 1 = ap (λ b. cond b 1 0) f in
    omega arith

-- where an element isn't of the kind, not all are
pub count_less : {X : Type 0} (p : X → Bool) (xs : List X) (i : ℕ) (d : X) → i < length xs
    → p (get_or xs i d) ≡ false → count_by p xs < length xs
count_less p [] i d lt e = absurd (omega arith)
count_less p (y ∷ ys) zero d lt e =
    let most = count_by-le-length p ys in
    let step : count_by p (y ∷ ys) ≡ cond {A = ℕ} (p y) 1 0 + count_by p ys =
    sum_by-cons (λ z. cond (p z) 1 0) y ys in
    let here : cond {A = ℕ} (p y) 1 0 ≡ 0 = ap (λ b. cond b 1 0) e in
    omega arith
count_less p (y ∷ ys) (suc i) d lt e =
    let less = count_less p ys i d (omega arith) e in
    let step : count_by p (y ∷ ys) ≡ cond {A = ℕ} (p y) 1 0 + count_by p ys =
    sum_by-cons (λ z. cond (p z) 1 0) y ys in
    let here : cond {A = ℕ} (p y) 1 0 ≤ 1 = most_one (p y) in
    omega arith

-- there are no more ranks than states
pub ranks_most : (g : GraphView) (within goals : List Bool) (ranks : List ℕ) (n : ℕ)
    → AreRanks g within goals ranks n → n ≤ g.states
ranks_most g within goals ranks n a =
    let most = count_by-le-length (λ r. nat_lt r g.states) ranks in omega (arith, a.size, a.count)

-- a state joins, whose rank is that of none yet
module _ (g : GraphView) (within goals : List Bool) (ranks : List ℕ) (n s : ℕ) (a : AreRanks g within goals ranks n)
    (there : s < g.states) (past : g.states ≤ rank_of g ranks s) (j : Joins g within goals ranks s g.states) where
  other : (q : ℕ) → rank_of g ranks q < g.states → rank_of g (set ranks s n) q ≡ rank_of g ranks q
  other q lt = elim (cases_eq q s) [
    | inl same ↦ absurd (let here = ap (rank_of g ranks) same in omega arith)
    | inr apart ↦ get_or-set_other ranks s q n g.states apart
  ]

  here : rank_of g (set ranks s n) s ≡ n
  here = get_or-set_same ranks s n g.states (omega (arith, a.size))

  none : nat_lt (rank_of g ranks s) g.states ≡ false
  none = elim (cases_Bool (nat_lt (rank_of g ranks s) g.states)) [
    | inl t ↦ absurd (let lt = ltb-true (rank_of g ranks s) g.states t in omega arith)
    | inr f ↦ f
  ]

  room : n < g.states
  room = let less = count_less (λ r. nat_lt r g.states) ranks s g.states (omega (arith, a.size)) none in
      omega (arith, a.size, a.count)

  lower : (t b : ℕ) → b ≤ g.states → LeadsBelow g ranks t b → LeadsBelow g (set ranks s n) t b
  lower t b le l = (l.0, l.1, l.2, subst (λ r. r < b) (sym (other l.1 (omega (arith, l.3)))) l.3)

  -- the rank of a state is an old one, or the new one
  cases : (q : ℕ) → rank_of g (set ranks s n) q < g.states
      → ((q ≡ s) × (rank_of g (set ranks s n) q ≡ n))
      ⊎ ((rank_of g ranks q < g.states) × (rank_of g (set ranks s n) q ≡ rank_of g ranks q))
  cases q lt = elim (cases_eq q s) [
    | inl same ↦ inl (same, ap (rank_of g (set ranks s n)) same ∙ here)
    | inr apart ↦ let is = get_or-set_other ranks s q n g.states apart in
        inr (subst (λ r. r < g.states) is lt, is)
  ]

  joined : (q r : ℕ) → r ≡ rank_of g (set ranks s n) q → r < g.states
      → Joins g within goals (set ranks s n) q r
  joined q r e lt = elim (cases q (subst (λ z. z < g.states) e lt)) [
    | inl new ↦ record {
      inside = subst (In within) (sym new.0) j.inside;
      leads = elim j.leads [
        | inl goal ↦ inl (subst (In goals) (sym new.0) goal)
        | inr l ↦ inr (subst (λ z. LeadsBelow g (set ranks s n) z r) (sym new.0)
            (lower s r (omega arith) (
              l.0,
              l.1,
              l.2,
              subst (λ z. rank_of g ranks l.1 < z) (sym (e ∙ new.1))
                  (a.below l.1 l.3),
            )))
      ];
    }
    | inr old ↦ let was = a.joins q old.0 in record {
      inside = was.inside;
      leads = elim was.leads [
        | inl goal ↦ inl goal
        | inr l ↦ inr (subst (LeadsBelow g (set ranks s n) q) (sym (e ∙ old.1))
            (lower q (rank_of g ranks q) (omega (arith, old.0)) l))
      ];
    }
  ]

  pub ranks_join : AreRanks g within goals (set ranks s n) (n + 1)
  ranks_join = record {
    size = length-set ranks s n ∙ a.size;
    count = count_set (λ r. nat_lt r g.states) ranks s n g.states (omega (arith, a.size)) none (lt-ltb n g.states room)
        ∙ ap (λ z. z + 1) a.count;
    below = λ q lt. elim (cases q lt) [
      | inl new ↦ omega (arith, new.1)
      | inr old ↦ let less = a.below q old.0 in omega (arith, old.1)
    ];
    joins = λ q lt. joined q (rank_of g (set ranks s n) q) refl lt;
  }

-- what has a rank comes to a goal
ways : (g : GraphView) (within goals : List Bool) (ranks : List ℕ) (n : ℕ) → AreRanks g within goals ranks n
    → (m s : ℕ) → rank_of g ranks s < m → rank_of g ranks s < g.states → Reaches g within goals s
ways g within goals ranks n a zero s lt is = absurd (omega arith)
ways g within goals ranks n a (suc m) s lt is = let j = a.joins s is in elim j.leads [
  | inl goal ↦ ([], s, (j.inside, refl), goal)
  | inr l ↦ let rest = ways g within goals ranks n a m l.1 (omega (arith, l.3)) (omega (arith, l.3)) in
      (l.0 ∷ rest.0, rest.1, (j.inside, l.1, l.2, rest.2), rest.3)
]

pub ranked_reaches : (g : GraphView) (within goals : List Bool) (ranks : List ℕ) (n s : ℕ)
    → AreRanks g within goals ranks n → rank_of g ranks s < g.states → Reaches g within goals s
ranked_reaches g within goals ranks n s a is =
    ways g within goals ranks n a (suc (rank_of g ranks s)) s (omega arith) is

-- and what comes to a goal has a rank
by_way : (g : GraphView) (within goals : List Bool) (ranks : List ℕ) → AreAllRanks g within goals ranks
    → (order : List ℕ) (s q : ℕ) → s < g.states → IsWay g within s order q → In goals q → rank_of g ranks s < g.states
by_way g within goals ranks all [] s q there w goal = elim (cases_lt (rank_of g ranks s) g.states) [
  | inl lt ↦ lt
  | inr past ↦ absurd (all s there (past, record { inside = w.0; leads = inl (subst (In goals) (sym w.1) goal) }))
]
by_way g within goals ranks all (t ∷ order) s q there w goal = elim (cases_lt (rank_of g ranks s) g.states) [
  | inl lt ↦ lt
  | inr past ↦ let next = by_way g within goals ranks all order w.1 q (go_state g s t w.1 w.2) w.3 goal in
      absurd (all s there (past, record { inside = w.0; leads = inr (t, w.1, w.2, next) }))
]

pub reaches_ranked : (g : GraphView) (within goals : List Bool) (ranks : List ℕ) (s : ℕ)
    → AreAllRanks g within goals ranks → s < g.states → Reaches g within goals s → rank_of g ranks s < g.states
reaches_ranked g within goals ranks s all there r = by_way g within goals ranks all r.0 s r.1 there r.2 r.3

-- a sweep from the last state down, that began with so many ranks, has gone so far
pub record IsSwept (g : GraphView) (within goals : List Bool) (ranks : List ℕ) (first n step : ℕ) : Type 0 where
  pub sound : AreRanks g within goals ranks n
  pub more : first ≤ n
  pub all : n ≡ first → (s : ℕ) → s < g.states → g.states ≤ s + step → JoinsNow g within goals ranks s → ⊥

-- a step of a sweep: what joins has got a rank
pub step_joined : (g : GraphView) (within goals : List Bool) (ranks new : List ℕ) (first n m s step : ℕ)
    → AreRanks g within goals ranks n → s + step + 1 ≡ g.states → JoinsNow g within goals ranks s
    → new ≡ set ranks s n → m ≡ n + 1 → first ≤ n → IsSwept g within goals new first m (step + 1)
step_joined g within goals ranks new first n m s step a at j is more le = record {
  sound = subst (λ z. AreRanks g within goals z m) (sym is) (subst (AreRanks g within goals (set ranks s n)) (sym more)
      (ranks_join g within goals ranks n s a (omega arith) j.0 j.1));
  more = omega arith;
  all = λ same. absurd (omega arith);
}

-- or none has
pub step_passed : (g : GraphView) (within goals : List Bool) (ranks : List ℕ) (first n s step : ℕ)
    → IsSwept g within goals ranks first n step → s + step + 1 ≡ g.states → (JoinsNow g within goals ranks s → ⊥)
    → IsSwept g within goals ranks first n (step + 1)
step_passed g within goals ranks first n s step w at j = record {
  sound = w.sound;
  more = w.more;
  all = λ same q there past. elim (cases_eq q s) [
    | inl is ↦ λ now. j (subst (JoinsNow g within goals ranks) is now)
    | inr apart ↦ w.all same q there (omega arith)
  ];
}
