-- Runs that have a bound, and fair runs that never end.
use Rattle.std.proofs.Common.{◌≡◌, ◌⊎◌, ◌<◌, ◌≤◌, ◌+◌, ℕ, zero, suc, List, [], ◌∷◌, length, Option, Some, None, refl}
use Rattle.std.proofs.{Common.{sym, subst, inl, inr, arith}, lemmas.Bool.{cases_lt, cases_eq}}
use Rattle.sect_endings.specs.Graphs.{GraphView, go, IsWalk, IsEnd}
use Rattle.sect_endings.specs.Runs.{CanEnd, IsBounded, IsEndless, IsFair, HasFairRun}
use Rattle.sect_endings.proofs.Going.{go_past, go_thread}

pub none_or_some : (o : Option ℕ) → (o ≡ None) ⊎ ((q : ℕ) × (o ≡ Some q))
none_or_some None = inl refl
none_or_some (Some q) = inr (q, refl)

first_moves : (g : GraphView) (s n : ℕ)
    → ((t : ℕ) → t < n → go g s t ≡ None) ⊎ ((t : ℕ) × (q : ℕ) × (go g s t ≡ Some q))
first_moves g s zero = inl (λ t lt. absurd (omega arith))
first_moves g s (suc n) = elim (first_moves g s n) [
  | inr m ↦ inr m
  | inl none ↦ elim (none_or_some (go g s n)) [
    | inr m ↦ inr (n, m.0, m.1)
    | inl here ↦ inl (λ t lt. elim (cases_eq t n) [
      | inl same ↦ subst (λ z. go g s z ≡ None) (sym same) here
      | inr apart ↦ none t (omega arith)
    ])
  ]
]

-- a state is an end, or some thread may go
pub end_or_move : (g : GraphView) (s : ℕ) → IsEnd g s ⊎ ((t : ℕ) × (q : ℕ) × (go g s t ≡ Some q))
end_or_move g s = elim (first_moves g s g.threads) [
  | inr m ↦ inr m
  | inl none ↦ inl (λ t. elim (cases_lt t g.threads) [ inl lt ↦ none t lt | inr past ↦ go_past g s t past ])
]

-- what a state leads to, from which no run can end, is such a state
pub traps_on : (g : GraphView) (s t q : ℕ) → go g s t ≡ Some q → (CanEnd g s → ⊥) → CanEnd g q → ⊥
traps_on g s t q e cant can = cant (t ∷ can.0, can.1, (q, e, can.2), can.3)

pub trap_walks : (g : GraphView) (order : List ℕ) (s q : ℕ) → IsWalk g s order q → (CanEnd g s → ⊥) → CanEnd g q → ⊥
trap_walks g [] s q w cant = subst (λ z. CanEnd g z → ⊥) w cant
trap_walks g (t ∷ order) s q w cant = trap_walks g order w.0 q w.2 (traps_on g s t w.0 w.1 cant)

-- the runs by the first threads have a bound in common
shared : (g : GraphView) (s n : ℕ) → ((t q : ℕ) → go g s t ≡ Some q → IsBounded g q)
    → (b : ℕ) × ((t q r : ℕ) (order : List ℕ) → t < n → go g s t ≡ Some q → IsWalk g q order r → length order ≤ b)
shared g s zero all = (0, λ t q r order lt e w. absurd (omega arith))
shared g s (suc n) all = let before = shared g s n all in elim (none_or_some (go g s n)) [
  | inl none ↦ (
    before.0,
    λ t q r order lt e w. elim (cases_eq t n) [
      | inl same ↦ absurd (let here : go g s n ≡ Some q = subst (λ z. go g s z ≡ Some q) same e in cc)
      | inr apart ↦ before.1 t q r order (omega arith) e w
    ],
  )
  | inr m ↦ let more = all n m.0 m.1 in (
    before.0 + more.0,
    λ t q r order lt e w. elim (cases_eq t n) [
      | inl same ↦
          let here : go g s n ≡ Some q = subst (λ z. go g s z ≡ Some q) same e in
          let is : q ≡ m.0 = (let there = m.1 in cc) in
          let few : length order ≤ more.0 = more.1 order r (subst (λ z. IsWalk g z order r) is w) in
          omega arith
      | inr apart ↦
          let few : length order ≤ before.0 = before.1 t q r order (omega arith) e w in
          omega arith
    ],
  )
]

by_first : (g : GraphView) (s b : ℕ)
    → ((t q r : ℕ) (order : List ℕ) → t < g.threads → go g s t ≡ Some q → IsWalk g q order r → length order ≤ b)
    → (order : List ℕ) (q : ℕ) → IsWalk g s order q → length order ≤ suc b
by_first g s b all [] q w = omega arith
by_first g s b all (t ∷ order) q w =
    let few : length order ≤ b = all t w.0 q order (go_thread g s t w.0 w.1) w.1 w.2 in omega arith

-- where all that a state leads to have a bound, it has one
pub bounded_next : (g : GraphView) (s : ℕ) → ((t q : ℕ) → go g s t ≡ Some q → IsBounded g q) → IsBounded g s
bounded_next g s all = let b = shared g s g.threads all in (suc b.0, by_first g s b.0 b.1)

-- a fair run from its next state on
abbrev pub later : (ℕ → ℕ) → ℕ → ℕ
later f n = f (suc n)

pub endless_later : (g : GraphView) (s : ℕ) (thread state : ℕ → ℕ) → IsEndless g s thread state
    → IsEndless g (state 1) (later thread) (later state)
endless_later g s thread state e = record { start = refl; steps = λ n. e.steps (suc n) }

pub fair_later : (g : GraphView) (thread state : ℕ → ℕ) → IsFair g thread state → IsFair g (later thread) (later state)
fair_later g thread state f t n = go_on (f t (suc n))
  where
    go_on : ((m : ℕ) × (suc n ≤ m) × ((thread m ≡ t) ⊎ (go g (state m) t ≡ None)))
        → (m : ℕ) × (n ≤ m) × ((thread (suc m) ≡ t) ⊎ (go g (state (suc m)) t ≡ None))
    go_on (zero, le, h) = absurd (omega arith)
    go_on (suc m, le, h) = (m, omega arith, h)

-- and from each of its states on
pub fair_at : (g : GraphView) (n : ℕ) (thread state : ℕ → ℕ) → IsEndless g (state 0) thread state
    → IsFair g thread state → HasFairRun g (state n)
fair_at g zero thread state e f = (thread, state, e, f)
fair_at g (suc n) thread state e f =
    fair_at g n (later thread) (later state) (endless_later g (state 0) thread state e) (fair_later g thread state f)
