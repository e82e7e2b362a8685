-- What goes round once goes round as often as one likes.
use Rattle.std.proofs.Common.{◌≡◌, ◌≢◌, ◌≤◌, ◌+◌, ℕ, zero, suc, List, [], ◌∷◌, ◌++◌, map, Some, refl, sym, ap, subst}
use Rattle.std.proofs.Common.{◌∙◌, arith, length, length-append}
use Rattle.std.proofs.lemmas.List.{append-nil, append_assoc}
use Rattle.sect_types.specs.{Programs.{ProgramView}, Whole.{RunView, in_order, begun}}
use Rattle.sect_free.specs.States.{Lacks, run_on, Leads, bare_frame}
use Rattle.sect_free.specs.Rounds.{rounds, RoundsNeverEnd, RoundsLeadOn}
use Rattle.sect_free.proofs.MoreSections.{more_run}
use Rattle.sect_free.proofs.States.{state, alike, on_more, lacks_more, more_nothing, total, regained, round_more}
use Rattle.sect_free.proofs.States.{order_more, behind}

-- behind so many rounds the state is that of the first again, with more fuel
abbrev GoesRound : ProgramView → List ℕ → RunView → Type 0
GoesRound p order first =
    (fuel : ℕ) × (s : RunView) × (in_order p order (begun p fuel) ≡ Some s)
    × (ds : ℕ → ℕ) × (run_on p s ≡ more_run ds first)

-- a round more
once_more : (p : ProgramView) (order round : List ℕ) (a b : RunView) → in_order p round a ≡ Some b
    → (Lacks (run_on p a) → ⊥) → (Lacks (run_on p b) → ⊥)
    → (let bare_of = λ (r : RunView). state r.store r.output (map bare_frame r.frames) in
    bare_of (run_on p b) ≡ bare_of (run_on p a))
    → GoesRound p order (run_on p a) → GoesRound p (order ++ round) (run_on p a)
once_more p order round a b ran first second same (fuel, s, led, ds, on) =
    let y = round_more p round ds a b s ran first second on in
    let n = total (run_on p a).frames in
    let none : Lacks (run_on p y.0) → ⊥ = λ l. second (lacks_more ds (run_on p b) (subst Lacks y.2 l)) in
    let es = regained n ds (run_on p b).frames (run_on p a).frames (ap (λ (r : RunView). r.frames) same)
    (omega arith) in (
      n + fuel,
      more_run (λ k. n) y.0,
      order_more p n fuel (order ++ round) y.0 (behind p order round (begun p fuel) s led ∙ y.1) none,
      es.0,
      on_more p (λ k. n) y.0 none ∙ ap (more_run (λ k. n)) y.2
          ∙ alike _ _ _ _ _ _ (ap (λ (r : RunView). r.store) same) (ap (λ (r : RunView). r.output) same) es.1,
    )

pub rounds_never_end : RoundsNeverEnd
rounds_never_end p before round h = λ n. led n (gone n) where
  a : RunView
  a = h.there.ran.0

  b : RunView
  b = h.again.ran.0

  first : Lacks (run_on p a) → ⊥
  first l = h.there.lacks (subst Lacks (sym h.there.ran.2) l)

  second : Lacks (run_on p b) → ⊥
  second l = h.again.lacks (subst Lacks (sym h.again.ran.2) l)

  bare_of : RunView → RunView
  bare_of r = state r.store r.output (map bare_frame r.frames)

  gone : (n : ℕ) → GoesRound p (before ++ rounds n round) (run_on p a)
  gone zero = (
    h.fuel,
    a,
    ap (λ order. in_order p order (begun p h.fuel)) (append-nil before) ∙ h.there.ran.1,
    (λ k. 0),
    sym (ap (λ fs. state a.store a.output fs) (more_nothing (run_on p a).frames)),
  )
  gone (suc n) =
      subst (λ order. GoesRound p order (run_on p a)) (append_assoc before (rounds n round) round)
      (once_more p (before ++ rounds n round) round a b
      (sym (behind p before round (begun p h.fuel) a h.there.ran.1) ∙ h.again.ran.1) first second
      (ap bare_of (sym h.again.ran.2) ∙ h.same ∙ ap bare_of h.there.ran.2) (gone n))

  led : (n : ℕ) → GoesRound p (before ++ rounds n round) (run_on p a)
      → (fuel : ℕ) × (r : RunView) × Leads p fuel (before ++ rounds n round) r
  led n (fuel, s, ran, ds, on) = (
    fuel,
    run_on p s,
    record {
      ran = (s, ran, refl);
      lacks = λ l. first (lacks_more ds (run_on p a) (subst Lacks on l));
    },
  )

-- a round has a section at least, so n of them have n
pub length-rounds : (n : ℕ) (round : List ℕ) → round ≢ [] → n ≤ length (rounds n round)
length-rounds zero round some = omega arith
length-rounds (suc n) [] some = absurd (some refl)
length-rounds (suc n) (t ∷ ts) some =
    let shorter = length-rounds n (t ∷ ts) some in
    rw length-append (omega (arith, shorter))

pub rounds_lead_on : RoundsLeadOn
rounds_lead_on p before round h n =
    let led = rounds_never_end p before round h n in
    let long = length-rounds n round h.some in
    (led.0, before ++ rounds n round, led.1, led.2, rw length-append (omega (arith, long)))
