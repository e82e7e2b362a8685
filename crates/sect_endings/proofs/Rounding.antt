-- A round, gone again and again, is a run.
use Rattle.std.proofs.Common.{◌≡◌, ◌≢◌, ◌⊎◌, ◌≤◌, ℕ, zero, suc, List, [], ◌∷◌, ◌++◌, length, Some, None, refl}
use Rattle.std.proofs.{Common.{sym, ◌∙◌, ap, subst, inl, inr, arith, append_assoc, length-append}}
use Rattle.std.proofs.lemmas.List.{append-nil}
use Rattle.sect_endings.specs.{Graphs.{GraphView, go, IsWalk}, declared.verdict.Verdict.{Verdict}, Laws.{SayTheSame}}
use Rattle.sect_endings.specs.Runs.{IsBounded, IsEndless, IsFair, HasFairRun, Meets, IsRound, IsFairRound}
use Rattle.sect_endings.specs.Runs.{IsVerdict}
use Rattle.sect_endings.specs.declared.verdict.Verdict.TheVariants as verdict
use Rattle.sect_endings.proofs.Running.{later, endless_later}
use Rattle.sect_endings.proofs.Walks.{walk_append, meets_left, meets_right}

-- the first of a round goes, and then stands last
abbrev pub turned : List ℕ → List ℕ
turned [] = []
turned (t ∷ order) = order ++ t ∷ []

abbrev pub head : List ℕ → ℕ
head [] = 0
head (t ∷ order) = t

abbrev pub turns : List ℕ → ℕ → List ℕ
turns round zero = round
turns round (suc n) = turned (turns round n)

-- where the first of a walk leads to
abbrev next_of : (g : GraphView) (order : List ℕ) (s q : ℕ) → order ≢ [] → IsWalk g s order q
    → (x : ℕ) × (go g s (head order) ≡ Some x)
next_of g [] s q some w = absurd (some refl)
next_of g (t ∷ order) s q some w = (w.0, w.1)

turned_some : (order : List ℕ) → order ≢ [] → turned order ≢ []
turned_some [] some = some
turned_some (t ∷ []) some = λ e. cc
turned_some (t ∷ u ∷ order) some = λ e. cc

abbrev turned_round : (g : GraphView) (order : List ℕ) (s : ℕ) (some : order ≢ []) (w : IsWalk g s order s)
    → IsRound g (next_of g order s s some w).0 (turned order)
turned_round g [] s some w = absurd (some refl)
turned_round g (t ∷ order) s some w = record {
  some = turned_some (t ∷ order) some;
  back = walk_append g order (t ∷ []) w.0 s w.0 w.2 (w.0, w.1, refl);
}

module _ (g : GraphView) (s : ℕ) (round : List ℕ) (is : IsRound g s round) where
  -- where the run is after so many threads, and that it goes round from there
  abbrev place : (n : ℕ) → (q : ℕ) × IsRound g q (turns round n)
  place zero = (s, is)
  place (suc n) =
      let p = place n in
      ((next_of g (turns round n) p.0 p.0 p.1.some p.1.back).0, turned_round g (turns round n) p.0 p.1.some p.1.back)

  abbrev thread : ℕ → ℕ
  thread n = head (turns round n)

  abbrev state : ℕ → ℕ
  state n = (place n).0

  endless : IsEndless g s thread state
  endless = record {
    start = refl;
    steps = λ n. let p = place n in (next_of g (turns round n) p.0 p.0 p.1.some p.1.back).1;
  }

  -- along the rest of the round the thread goes, or may not go
  found : (t : ℕ) (p r : List ℕ) (n : ℕ) → turns round n ≡ p ++ r → Meets g (state n) p t
      → (m : ℕ) × (n ≤ m) × ((thread m ≡ t) ⊎ (go g (state m) t ≡ None))
  found t [] r n e m = (n, omega arith, inr m)
  found t (u ∷ p) r n e (inl none) = (n, omega arith, inr none)
  found t (u ∷ p) r n e (inr (inl same)) = (n, omega arith, inl (ap head e ∙ same))
  found t (u ∷ p) r n e (inr (inr m)) =
      let here : thread n ≡ u = ap head e in
      let step : go g (state n) u ≡ Some (state (suc n)) =
      subst (λ z. go g (state n) z ≡ Some (state (suc n))) here (endless.steps n) in
      let same : m.0 ≡ state (suc n) = (let there = m.1 in cc) in
      let rest : turns round (suc n) ≡ p ++ (r ++ u ∷ []) = ap turned e ∙ append_assoc p r (u ∷ []) in
      let later = found t p (r ++ u ∷ []) (suc n) rest (subst (λ z. Meets g z p t) same m.2) in
      (later.0, omega arith, later.2)

  -- what is met along a round is met along it from each of its states
  met_turned : (t : ℕ) (order : List ℕ) (q : ℕ) (some : order ≢ []) (w : IsWalk g q order q) → Meets g q order t
      → Meets g (next_of g order q q some w).0 (turned order) t
  met_turned t [] q some w m = absurd (some refl)
  met_turned t (u ∷ order) q some w (inl none) = meets_right g order (u ∷ []) w.0 q t w.2 (inl none)
  met_turned t (u ∷ order) q some w (inr (inl same)) = meets_right g order (u ∷ []) w.0 q t w.2 (inr (inl same))
  met_turned t (u ∷ order) q some w (inr (inr m)) =
      let same : m.0 ≡ w.0 = (let there = m.1 in let here = w.1 in cc) in
      meets_left g order (u ∷ []) w.0 t (subst (λ z. Meets g z order t) same m.2)

  met_at_all : (t : ℕ) → Meets g s round t → (n : ℕ) → Meets g (state n) (turns round n) t
  met_at_all t m zero = m
  met_at_all t m (suc n) =
      let p = place n in met_turned t (turns round n) p.0 p.1.some p.1.back (met_at_all t m n)

  fair : ((t : ℕ) → Meets g s round t) → IsFair g thread state
  fair meets t n = found t (turns round n) [] n (sym (append-nil (turns round n))) (met_at_all t (meets t) n)

pub round_runs : (g : GraphView) (s : ℕ) (round : List ℕ) → IsRound g s round
    → (f : ℕ → ℕ) × (q : ℕ → ℕ) × IsEndless g s f q
round_runs g s round is = (thread g s round is, state g s round is, endless g s round is)

pub fair_runs : (g : GraphView) (s : ℕ) (round : List ℕ) → IsFairRound g s round → HasFairRun g s
fair_runs g s round is = (
  thread g s round is.returns,
  state g s round is.returns,
  endless g s round is.returns,
  fair g s round is.returns is.fair,
)

-- a run that never ends has no bound
walks : (g : GraphView) (n : ℕ) (thread state : ℕ → ℕ) (s : ℕ) → IsEndless g s thread state
    → (order : List ℕ) × (q : ℕ) × IsWalk g s order q × (length order ≡ n)
walks g zero thread state s e = ([], s, refl, refl)
walks g (suc n) thread state s e =
    let rest = walks g n (later thread) (later state) (state 1) (endless_later g s thread state e) in
    let step : go g s (thread 0) ≡ Some (state 1) =
    subst (λ z. go g z (thread 0) ≡ Some (state 1)) e.start (e.steps 0) in
    (thread 0 ∷ rest.0, rest.1, (state 1, step, rest.2), ap suc rest.3)

pub bounded_ends : (g : GraphView) (s : ℕ) (thread state : ℕ → ℕ) → IsEndless g s thread state → IsBounded g s → ⊥
bounded_ends g s thread state e b =
    let w = walks g (suc b.0) thread state s e in let few = b.1 w.0 w.1 w.2 in omega (arith, w.3)

bounded_on : (g : GraphView) (order : List ℕ) (s q : ℕ) → IsWalk g s order q → IsBounded g s → IsBounded g q
bounded_on g order s q w b = (
  b.0,
  λ more r v. let few = b.1 (order ++ more) r (walk_append g order more s q r w v) in
      omega (arith, few, length-append order more),
)

-- a fair run begins one thread sooner
abbrev sooner : ℕ → (ℕ → ℕ) → ℕ → ℕ
sooner first f zero = first
sooner first f (suc n) = f n

sooner_endless : (g : GraphView) (s t q : ℕ) (thread state : ℕ → ℕ) → go g s t ≡ Some q → IsEndless g q thread state
    → IsEndless g s (sooner t thread) (sooner s state)
sooner_endless g s t q thread state e is = record { start = refl; steps = step }
  where
    step : (n : ℕ) → go g (sooner s state n) (sooner t thread n) ≡ Some (sooner s state (suc n))
    step zero = e ∙ ap (λ z. Some z) (sym is.start)
    step (suc n) = is.steps n

sooner_fair : (g : GraphView) (s t : ℕ) (thread state : ℕ → ℕ) → IsFair g thread state
    → IsFair g (sooner t thread) (sooner s state)
sooner_fair g s t thread state f u zero = let m = f u 0 in (suc m.0, omega arith, m.2)
sooner_fair g s t thread state f u (suc n) = let m = f u n in (suc m.0, omega arith, m.2)

fair_before : (g : GraphView) (order : List ℕ) (s q : ℕ) → IsWalk g s order q → HasFairRun g q → HasFairRun g s
fair_before g [] s q w h = subst (HasFairRun g) (sym w) h
fair_before g (t ∷ order) s q w h =
    let r = fair_before g order w.0 q w.2 h in
    (sooner t r.0, sooner s r.1, sooner_endless g s t w.0 r.0 r.1 w.1 r.2, sooner_fair g s t r.0 r.1 r.3)

-- with a bound there is no round
bound_round : (g : GraphView) (s : ℕ) (before round : List ℕ) → IsBounded g 0 → IsWalk g 0 before s
    → IsRound g s round → ⊥
bound_round g s before round b w is =
    let f = round_runs g s round is in bounded_ends g s f.0 f.1 f.2 (bounded_on g before 0 s w b)

-- and a fair round that a walk leads to makes a fair run
fair_from : (g : GraphView) (s : ℕ) (before round : List ℕ) → IsWalk g 0 before s → IsFairRound g s round
    → HasFairRun g 0
fair_from g s before round w is = fair_before g before 0 s w (fair_runs g s round is)

pub one_verdict : (g : GraphView) (v w : Verdict) → IsVerdict g v → IsVerdict g w → SayTheSame v w
one_verdict g verdict.EveryRunEnds verdict.EveryRunEnds a b = tt
one_verdict g verdict.EveryRunEnds (verdict.EveryFairRunEnds r) a b =
    absurd (bound_round g b.0 r.before.items r.round.items a b.1 b.2)
one_verdict g verdict.EveryRunEnds (verdict.SomeFairRunNeverEnds r) a b =
    absurd (bound_round g b.0 r.before.items r.round.items a b.1 b.2.returns)
one_verdict g verdict.EveryRunEnds (verdict.SomeRunCantEnd r) a b =
    absurd (bound_round g b.0 r.before.items r.round.items a b.1 b.2.returns)
one_verdict g (verdict.EveryFairRunEnds q) verdict.EveryRunEnds a b =
    absurd (bound_round g a.0 q.before.items q.round.items b a.1 a.2)
one_verdict g (verdict.EveryFairRunEnds q) (verdict.EveryFairRunEnds r) a b = tt
one_verdict g (verdict.EveryFairRunEnds q) (verdict.SomeFairRunNeverEnds r) a b =
    absurd (a.3 (fair_from g b.0 r.before.items r.round.items b.1 b.2))
one_verdict g (verdict.EveryFairRunEnds q) (verdict.SomeRunCantEnd r) a b =
    absurd (a.3 (fair_from g b.0 r.before.items r.round.items b.1 b.2))
one_verdict g (verdict.SomeFairRunNeverEnds q) verdict.EveryRunEnds a b =
    absurd (bound_round g a.0 q.before.items q.round.items b a.1 a.2.returns)
one_verdict g (verdict.SomeFairRunNeverEnds q) (verdict.EveryFairRunEnds r) a b =
    absurd (b.3 (fair_from g a.0 q.before.items q.round.items a.1 a.2))
one_verdict g (verdict.SomeFairRunNeverEnds q) (verdict.SomeFairRunNeverEnds r) a b = tt
one_verdict g (verdict.SomeFairRunNeverEnds q) (verdict.SomeRunCantEnd r) a b =
    absurd (b.3 (a.3 r.before.items b.0 b.1))
one_verdict g (verdict.SomeRunCantEnd q) verdict.EveryRunEnds a b =
    absurd (bound_round g a.0 q.before.items q.round.items b a.1 a.2.returns)
one_verdict g (verdict.SomeRunCantEnd q) (verdict.EveryFairRunEnds r) a b =
    absurd (b.3 (fair_from g a.0 q.before.items q.round.items a.1 a.2))
one_verdict g (verdict.SomeRunCantEnd q) (verdict.SomeFairRunNeverEnds r) a b =
    absurd (a.3 (b.3 q.before.items a.0 a.1))
one_verdict g (verdict.SomeRunCantEnd q) (verdict.SomeRunCantEnd r) a b = tt
