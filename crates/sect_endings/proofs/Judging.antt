-- What is said of the runs of a graph.
use Rattle.std.proofs.Common.{◌≡◌, ◌<◌, ◌≤◌, ◌++◌, ℕ, Bool, false, List, [], ◌∷◌, get_or}
use Rattle.std.proofs.Common.{sym, ◌∙◌, ap, subst, inl, inr, arith}
use Rattle.std.proofs.lemmas.Bool.{cases_lt, cases_Bool}
use Rattle.sect_endings.specs.{Graphs.{GraphView, IsWalk, IsEnd}, Runs.{CanEnd, IsFairRound}}
use Rattle.sect_endings.specs.steps.Sets.{In, IsWay, AreMarks, AreRanks, AreAllRanks, rank_of}
use Rattle.sect_endings.specs.steps.Walking.{Comes, IsRoundFrom}
use Rattle.sect_endings.proofs.Going.{go_state, go_past}
use Rattle.sect_endings.proofs.Ranked.{ranked_reaches, reaches_ranked}
use Rattle.sect_endings.proofs.{Running.{trap_walks}, Marked.{in_there}}
use Rattle.sect_endings.proofs.Walks.{way_walk, met_at}

pub walk_state : (g : GraphView) (order : List ℕ) (s q : ℕ) → s < g.states → IsWalk g s order q → q < g.states
walk_state g [] s q lt w = subst (λ z. z < g.states) w lt
walk_state g (t ∷ order) s q lt w = walk_state g order w.0 q (go_state g s t w.0 w.1) w.2

-- a walk stays among all states
pub walk_way : (g : GraphView) (all : List Bool) → ((s : ℕ) → s < g.states → In all s) → (order : List ℕ) (s q : ℕ)
    → s < g.states → IsWalk g s order q → IsWay g all s order q
walk_way g all is [] s q lt w = (is s lt, w)
walk_way g all is (t ∷ order) s q lt w =
    (is s lt, w.0, w.1, walk_way g all is order w.0 q (go_state g s t w.0 w.1) w.2)

-- the states without a rank are those from which no run can end, where the ranks tell how others come to an end
module _ (g : GraphView) (all ends : List Bool) (ranks : List ℕ) (n : ℕ) (traps : List Bool)
    (is : (s : ℕ) → s < g.states → In all s) (e : AreMarks g.states ends (IsEnd g)) (a : AreRanks g all ends ranks n)
    (whole : AreAllRanks g all ends ranks) (m : AreMarks g.states traps (λ s. g.states ≤ rank_of g ranks s)) where
  can_rank : (s : ℕ) → s < g.states → CanEnd g s → rank_of g ranks s < g.states
  can_rank s lt can =
      let at : can.1 < g.states = walk_state g can.0 s can.1 lt can.2 in
      reaches_ranked g all ends ranks s whole lt
      (can.0, can.1, walk_way g all is can.0 s can.1 lt can.2, (e.is can.1 at).1 can.3)

  rank_can : (s : ℕ) → rank_of g ranks s < g.states → CanEnd g s
  rank_can s lt =
      let r = ranked_reaches g all ends ranks n s a lt in
      let at : r.1 < g.states = subst (λ z. r.1 < z) e.size (in_there ends r.1 r.3) in
      (r.0, r.1, way_walk g all r.0 s r.1 r.2, (e.is r.1 at).0 r.3)

  pub traps_marked : AreMarks g.states traps (λ s. CanEnd g s → ⊥)
  traps_marked = record {
    size = m.size;
    is = λ s lt. (
      λ on can. absurd (let past = (m.is s lt).0 on in let less = can_rank s lt can in omega arith),
      λ cant. elim (cases_lt (rank_of g ranks s) g.states) [
        | inl less ↦ absurd (cant (rank_can s less))
        | inr past ↦ (m.is s lt).1 past
      ],
    );
  }

  pub others_end : (s : ℕ) → s < g.states → get_or traps s false ≡ false → CanEnd g s
  others_end s lt off = elim (cases_lt (rank_of g ranks s) g.states) [
    | inl less ↦ rank_can s less
    | inr past ↦ absurd (let on = (m.is s lt).1 past in cc)
  ]

-- where no way leads to such a state, each run can end
pub none_trapped : (g : GraphView) (all traps : List Bool) (ranks : List ℕ) → ((s : ℕ) → s < g.states → In all s)
    → ((s : ℕ) → s < g.states → get_or traps s false ≡ false → CanEnd g s) → AreAllRanks g all traps ranks
    → 0 < g.states → g.states ≤ rank_of g ranks 0 → (order : List ℕ) (q : ℕ) → IsWalk g 0 order q → CanEnd g q
none_trapped g all traps ranks is others whole some past order q w =
    elim (cases_Bool (get_or traps q false)) [
      | inr off ↦ others q (walk_state g order 0 q some w) off
      | inl on ↦ absurd (let less = reaches_ranked g all traps ranks 0 whole some
          (order, q, walk_way g all is order 0 q some w, on) in omega arith)
    ]

-- a run has come to one
pub comes_trapped : (g : GraphView) (all traps : List Bool) (q : ℕ) (order new : List ℕ)
    → AreMarks g.states traps (λ s. CanEnd g s → ⊥) → 0 < g.states → order ≡ [] → Comes g all 0 order q new → In traps q
    → IsWalk g 0 new q × (CanEnd g q → ⊥)
comes_trapped g all traps q order new m some none come on =
    let walk : IsWalk g 0 come.0 q = way_walk g all come.0 0 q come.1.way in (
      subst (λ p. IsWalk g 0 p q) (sym (come.1.added ∙ ap (λ p. p ++ come.0) none)) walk,
      (m.is q (walk_state g come.0 0 q some walk)).0 on,
    )

-- a round along which each thread is met is fair
pub fair_round : (g : GraphView) (n first : ℕ) (before round : List ℕ) (s : ℕ) → n ≡ g.threads
    → IsRoundFrom g n first before round s → IsFairRound g s round
fair_round g n first before round s all r = record {
  returns = r.returns;
  fair = λ t. elim (cases_lt t n) [
    | inl lt ↦ r.meets t lt
    | inr past ↦ met_at g s t round (go_past g s t (omega arith))
  ];
}

pub round_trapped : (g : GraphView) (n first : ℕ) (before round : List ℕ) (s : ℕ)
    → IsRoundFrom g n first before round s → (CanEnd g first → ⊥) → CanEnd g s → ⊥
round_trapped g n first before round s r cant = trap_walks g r.came.0 first s r.came.1 cant
