-- What is left of a set of states has all from which runs need not end.
use Rattle.std.proofs.Common.{◌≡◌, ◌<◌, ◌+◌, ℕ, zero, suc, Bool, true, false, List, [], ◌∷◌, length, get_or}
use Rattle.std.proofs.Common.{Some, refl, sym, ◌∙◌, subst, inl, inr, arith}
use Rattle.std.proofs.lemmas.Bool.{cases_Bool, cases_eq}
use Rattle.sect_endings.specs.{Graphs.{GraphView, go}, Runs.{IsEndless, IsFair, HasFairRun}}
use Rattle.sect_endings.specs.steps.Sets.{In, IsWay, IsMet, MovesInto, AreMarks, IsNarrowed, count_in}
use Rattle.sect_endings.specs.steps.Lasting.{IsCandidate, AllMove, AllMeet, ReachesMet, IsLess, IsPassed}
use Rattle.sect_endings.proofs.{Going.{go_state}, Marked.{in_there, way_from}}
use Rattle.sect_endings.proofs.Running.{none_or_some, end_or_move, traps_on, bounded_next, later, endless_later}
use Rattle.sect_endings.proofs.Running.{fair_later, fair_at}

pub narrowed_less : (g : GraphView) (goals old new : List Bool) (changed : Bool) → IsNarrowed g goals old new changed
    → IsLess old new changed
narrowed_less g goals old new changed n = record { size = n.size; fewer = n.fewer; same = n.same }

-- a run that is fair stays in a set that has all from which there is one
module _ (g : GraphView) (old : List Bool) (all : (s : ℕ) → s < g.states → HasFairRun g s → In old s) where
  along : (k : ℕ) (thread state : ℕ → ℕ) → state 0 < g.states → IsEndless g (state 0) thread state
      → IsFair g thread state → (order : List ℕ) × IsWay g old (state 0) order (state k)
  along zero thread state there e f = ([], (all (state 0) there (thread, state, e, f), refl))
  along (suc k) thread state there e f =
      let next : state 1 < g.states = go_state g (state 0) (thread 0) (state 1) (e.steps 0) in
      let rest = along k (later thread) (later state) next (endless_later g (state 0) thread state e)
      (fair_later g thread state f) in
      (thread 0 ∷ rest.0, (all (state 0) there (thread, state, e, f), state 1, e.steps 0, rest.1))

  met_along : (t : ℕ) (thread state : ℕ → ℕ) → state 0 < g.states → IsEndless g (state 0) thread state
      → IsFair g thread state → ReachesMet g old t (state 0)
  met_along t thread state there e f =
      let m = f t 0 in
      let way = along m.0 thread state there e f in (
        way.0,
        state m.0,
        way.1,
        elim m.2 [
          | inr none ↦ inl none
          | inl is ↦
              let step : go g (state m.0) t ≡ Some (state (suc m.0)) =
              subst (λ z. go g (state m.0) z ≡ Some (state (suc m.0))) is (e.steps m.0) in
              inr (
                state (suc m.0),
                step,
                all (state (suc m.0)) (go_state g (state m.0) t (state (suc m.0)) step)
                    (fair_at g (suc m.0) thread state e f),
              )
        ],
      )

  pub fair_meets : (t s : ℕ) → s < g.states → HasFairRun g s → ReachesMet g old t s
  fair_meets t s there h =
      let start : h.1 0 ≡ s = h.2.start in
      subst (ReachesMet g old t) start (met_along t h.0 h.1 (subst (λ z. z < g.states) (sym start) there)
      (record { start = refl; steps = h.2.steps }) h.3)

  pub fair_moves : (s : ℕ) → s < g.states → HasFairRun g s → MovesInto g old s
  fair_moves s there h =
      let start : h.1 0 ≡ s = h.2.start in
      let step : go g s (h.0 0) ≡ Some (h.1 1) =
      subst (λ z. go g z (h.0 0) ≡ Some (h.1 1)) start (h.2.steps 0) in (
        h.0 0,
        h.1 1,
        step,
        all (h.1 1) (go_state g s (h.0 0) (h.1 1) step)
            (fair_at g 1 h.0 h.1 (record { start = refl; steps = h.2.steps }) h.3),
      )

-- a set is narrowed to what leads into it
module _ (g : GraphView) (goals old new : List Bool) (changed : Bool) (m : AreMarks g.states goals (MovesInto g old))
    (n : IsNarrowed g goals old new changed) where
  here : (s : ℕ) → s < g.states → In old s → MovesInto g old s → In new s
  here s lt i moves = n.kept s lt ([], s, (i, refl), (m.is s lt).1 moves)

  pub moves_candidate : (threads : ℕ) → IsCandidate g threads old → IsCandidate g threads new
  moves_candidate threads c = record {
    size = n.size ∙ c.size;
    traps = λ s lt cant. here s lt (c.traps s lt cant) (elim (end_or_move g s) [
      | inl end ↦ absurd (cant ([], s, refl, end))
      | inr x ↦ (x.0, x.1, x.2, c.traps x.1 (go_state g s x.0 x.1 x.2) (traps_on g s x.0 x.1 x.2 cant))
    ]);
    fair = λ s lt f. here s lt (c.fair s lt f) (fair_moves g old c.fair s lt f);
    bounded = λ cant s lt out. elim (cases_Bool (get_or old s false)) [
      | inr off ↦ c.bounded cant s lt (λ i. absurd (cc (i, off)))
      | inl i ↦ bounded_next g s (λ t q e. c.bounded cant q (go_state g s t q e)
          (λ j. out (here s lt i (t, q, e, j))))
    ];
  }

  moves_by : (order : List ℕ) (s q : ℕ) → IsWay g old s order q → In goals q → MovesInto g old s
  moves_by [] s q w goal = (m.is s (subst (λ z. s < z) m.size (in_there goals s at))).0 at
    where
      at : In goals s
      at = subst (In goals) (sym w.1) goal
  moves_by (t ∷ order) s q w goal = (t, w.1, w.2, way_from g old order w.1 q w.3)

  pub moves_settled : length old ≡ g.states → changed ≡ false → AllMove g new
  moves_settled size cant =
      let same = n.same cant in
      subst (AllMove g) (sym same) (λ s i. let r = n.reach s (subst (λ z. s < z) size (in_there old s i))
      (subst (λ z. In z s) (sym same) i) in moves_by r.0 s r.1 r.2 r.3)

-- a set is narrowed to what comes to where a thread is met
module _ (g : GraphView) (t : ℕ) (goals old new : List Bool) (changed : Bool)
    (m : AreMarks g.states goals (IsMet g old t)) (n : IsNarrowed g goals old new changed) where
  way_end : (order : List ℕ) (s q : ℕ) → IsWay g old s order q → In old q
  way_end [] s q w = subst (In old) w.1 w.0
  way_end (u ∷ order) s q w = way_end order w.1 q w.3

  kept_so : (size : length old ≡ g.states) (s : ℕ) → s < g.states → ReachesMet g old t s → In new s
  kept_so size s lt r =
      let at : r.1 < g.states = subst (λ z. r.1 < z) size (in_there old r.1 (way_end r.0 s r.1 r.2)) in
      n.kept s lt (r.0, r.1, r.2, (m.is r.1 at).1 r.3)

  pub thread_candidate : (threads : ℕ) → t < threads → IsCandidate g threads old → IsCandidate g threads new
  thread_candidate threads among c = record {
    size = n.size ∙ c.size;
    traps = λ s lt cant. kept_so c.size s lt (
      [],
      s,
      (c.traps s lt cant, refl),
      elim (none_or_some (go g s t)) [
        | inl none ↦ inl none
        | inr x ↦ inr (x.0, x.1, c.traps x.0 (go_state g s t x.0 x.1) (traps_on g s t x.0 x.1 cant))
      ],
    );
    fair = λ s lt f. kept_so c.size s lt (fair_meets g old c.fair t s lt f);
    bounded = λ cant s lt out. absurd (omega arith);
  }

  pub thread_settled : length old ≡ g.states → changed ≡ false → AllMeet g new t
  thread_settled size cant =
      let same = n.same cant in
      subst (λ z. AllMeet g z t) (sym same) (λ s i. let r = n.reach s (subst (λ z. s < z) size (in_there old s i))
      (subst (λ z. In z s) (sym same) i) in
      (r.0, r.1, r.2, (m.is r.1 (subst (λ z. r.1 < z) m.size (in_there goals r.1 r.3))).0 r.3))

-- a pass begins
pub pass_begun : (g : GraphView) (threads : ℕ) (old new : List Bool) (changed : Bool) → IsLess old new changed
    → ((n : ℕ) → IsCandidate g n old → IsCandidate g n new) → (changed ≡ false → AllMove g new)
    → IsPassed g threads 0 old new changed
pass_begun g threads old new changed less stays moves = record {
  less = less;
  stays = stays threads;
  settled = λ cant. record { moves = moves cant; meets = λ t lt. absurd (omega arith) };
}

-- and goes on with a thread, which takes states out
pub pass_changed : (g : GraphView) (threads t : ℕ) (first old new : List Bool) (before : Bool)
    → IsPassed g threads t first old before → IsLess old new true
    → (IsCandidate g threads old → IsCandidate g threads new) → IsPassed g threads (t + 1) first new true
pass_changed g threads t first old new before p less stays = record {
  less = record {
    size = less.size ∙ p.less.size;
    fewer = λ is. elim (cases_Bool before) [
      | inl b ↦ let one = less.fewer refl in let two = p.less.fewer b in omega arith
      | inr b ↦ subst (λ z. count_in new < count_in z) (p.less.same b) (less.fewer refl)
    ];
    same = λ cant. absurd (cc);
  };
  stays = λ c. stays (p.stays c);
  settled = λ cant. absurd (cc);
}

-- or none
pub pass_kept : (g : GraphView) (threads t : ℕ) (first old new : List Bool) (before : Bool)
    → IsPassed g threads t first old before → IsLess old new false → AllMeet g new t
    → IsPassed g threads (t + 1) first new before
pass_kept g threads t first old new before p less meets =
    let same : old ≡ new = sym (less.same refl) in
    let q = subst (λ z. IsPassed g threads t first z before) same p in
    record {
      less = q.less;
      stays = q.stays;
      settled = λ cant. record {
        moves = (q.settled cant).moves;
        meets = λ u lt. elim (cases_eq u t) [
          | inl is ↦ subst (AllMeet g new) (sym is) meets
          | inr apart ↦ (q.settled cant).meets u (omega arith)
        ];
      };
    }
