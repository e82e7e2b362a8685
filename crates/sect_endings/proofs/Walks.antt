-- Walks one after another.
use Rattle.std.proofs.Common.{◌≡◌, ◌≢◌, ◌⊎◌, ◌<◌, ◌+◌, ◌-◌, ℕ, zero, suc, Bool, List, [], ◌∷◌, ◌++◌, length, get_or}
use Rattle.std.proofs.Common.{set}
use Rattle.std.proofs.Common.{take, drop, Some, None, refl, sym, ◌∙◌, ap, subst, inl, inr, arith, length-append}
use Rattle.std.proofs.Common.{append_assoc, get_or-set_same, get_or-set_other}
use Rattle.std.proofs.lemmas.List.{append-nil, take-append-le, drop-append-le, take_at, drop_at, length-set}
use Rattle.std.proofs.lemmas.List.{length-replicate, length-drop}
use Rattle.std.specs.Prelude.{replicate}
use Rattle.std.proofs.lemmas.Bool.{cases_eq}
use Rattle.sect_endings.specs.{Graphs.{GraphView, go, IsWalk}, Runs.{Meets}}
use Rattle.sect_endings.specs.steps.Sets.{In, IsWay, IsMet, AreMarks, AreRanks, AreAllRanks, LeadsBelow, rank_of}
use Rattle.sect_endings.specs.steps.Walking.{Goes, Comes, Passes, PassesAll, Circles, IsSeen, IsRunning, IsRoundFrom}
use Rattle.sect_endings.specs.steps.Lasting.{ReachesMet}
use Rattle.sect_endings.proofs.{Marked.{in_there}, Ranked.{reaches_ranked}}

pub way_walk : (g : GraphView) (within : List Bool) (order : List ℕ) (s q : ℕ) → IsWay g within s order q
    → IsWalk g s order q
way_walk g within [] s q w = w.1
way_walk g within (t ∷ order) s q w = (w.1, w.2, way_walk g within order w.1 q w.3)

pub way_end : (g : GraphView) (within : List Bool) (order : List ℕ) (s q : ℕ) → IsWay g within s order q → In within q
way_end g within [] s q w = subst (In within) w.1 w.0
way_end g within (t ∷ order) s q w = way_end g within order w.1 q w.3

pub walk_append : (g : GraphView) (p r : List ℕ) (s q z : ℕ) → IsWalk g s p q → IsWalk g q r z → IsWalk g s (p ++ r) z
walk_append g [] r s q z w v = subst (λ x. IsWalk g x r z) (sym w) v
walk_append g (t ∷ p) r s q z w v = (w.0, w.1, walk_append g p r w.0 q z w.2 v)

pub way_append : (g : GraphView) (within : List Bool) (p r : List ℕ) (s q z : ℕ) → IsWay g within s p q
    → IsWay g within q r z → IsWay g within s (p ++ r) z
way_append g within [] r s q z w v = subst (λ x. IsWay g within x r z) (sym w.1) v
way_append g within (t ∷ p) r s q z w v = (w.0, w.1, w.2, way_append g within p r w.1 q z w.3 v)

pub met_at : (g : GraphView) (s t : ℕ) (r : List ℕ) → go g s t ≡ None → Meets g s r t
met_at g s t [] e = e
met_at g s t (u ∷ r) e = inl e

pub meets_left : (g : GraphView) (p r : List ℕ) (s t : ℕ) → Meets g s p t → Meets g s (p ++ r) t
meets_left g [] r s t m = met_at g s t r m
meets_left g (u ∷ p) r s t (inl none) = inl none
meets_left g (u ∷ p) r s t (inr (inl is)) = inr (inl is)
meets_left g (u ∷ p) r s t (inr (inr m)) = inr (inr (m.0, m.1, meets_left g p r m.0 t m.2))

pub meets_right : (g : GraphView) (p r : List ℕ) (s q t : ℕ) → IsWalk g s p q → Meets g q r t → Meets g s (p ++ r) t
meets_right g [] r s q t w m = subst (λ x. Meets g x r t) (sym w) m
meets_right g (u ∷ p) r s q t w m = inr (inr (w.0, w.1, meets_right g p r w.0 q t w.2 m))

-- a run goes on
pub goes_on : (g : GraphView) (within : List Bool) (s q z : ℕ) (order mid new p r : List ℕ)
    → Goes g within s order q mid p → Goes g within q mid z new r → Goes g within s order z new (p ++ r)
goes_on g within s q z order mid new p r a b = record {
  added = b.added ∙ (ap (λ x. x ++ r) a.added ∙ append_assoc order p r);
  way = way_append g within p r s q z a.way b.way;
}

-- by a thread
pub goes_one : (g : GraphView) (within : List Bool) (s q t : ℕ) (order new : List ℕ) → In within s → In within q
    → go g s t ≡ Some q → new ≡ order ++ t ∷ [] → Goes g within s order q new (t ∷ [])
goes_one g within s q t order new i j e added = record { added = added; way = (i, q, e, (j, refl)) }

-- or not
pub goes_none : (g : GraphView) (within : List Bool) (s : ℕ) (order : List ℕ) → In within s
    → Goes g within s order s order []
goes_none g within s order i = record { added = sym (append-nil order); way = (i, refl) }

-- what is led to a state from one that is no goal has a lower rank, so what is led to no further is a goal
pub goal_at : (g : GraphView) (within goals : List Bool) (ranks : List ℕ) (n s : ℕ) → AreRanks g within goals ranks n
    → rank_of g ranks s < g.states → In goals s ⊎ (LeadsBelow g ranks s (rank_of g ranks s) → ⊥) → In goals s
goal_at g within goals ranks n s a lt (inl goal) = goal
goal_at g within goals ranks n s a lt (inr none) = elim (a.joins s lt).leads [
  | inl goal ↦ goal
  | inr leads ↦ absurd (none leads)
]

-- a step of a walk
pub walk_on : (g : GraphView) (within goals : List Bool) (ranks : List ℕ) (n first s t q : ℕ) (order mid new : List ℕ)
    → AreRanks g within goals ranks n → go g s t ≡ Some q → rank_of g ranks q < rank_of g ranks s
    → new ≡ mid ++ t ∷ [] → Comes g within first order s mid → rank_of g ranks s < g.states
    → Comes g within first order q new × (rank_of g ranks q < g.states)
walk_on g within goals ranks n first s t q order mid new a e lower added come lt =
    let less : rank_of g ranks q < g.states = omega arith in
    let one = goes_one g within s q t mid new (a.joins s lt).inside (a.joins q less).inside e added in
    ((come.0 ++ t ∷ [], goes_on g within first s q order mid new come.0 (t ∷ []) come.1 one), less)

-- a thread is met at the end of a walk: it goes
pub passes_go : (g : GraphView) (within : List Bool) (t first s q : ℕ) (order mid new : List ℕ)
    → Comes g within first order s mid → IsMet g within t s → go g s t ≡ Some q → new ≡ mid ++ t ∷ []
    → Passes g within t first order q new
passes_go g within t first s q order mid new come met e added =
    let there : In within q = elim met [
      | inl none ↦ absurd (cc)
      | inr m ↦ let same : m.0 ≡ q = (let is = m.1 in cc) in subst (In within) same m.2
    ] in
    let one = goes_one g within s q t mid new (way_end g within come.0 first s come.1.way) there e added in (
      come.0 ++ t ∷ [],
      goes_on g within first s q order mid new come.0 (t ∷ []) come.1 one,
      meets_right g come.0 (t ∷ []) first s t (way_walk g within come.0 first s come.1.way) (inr (inl refl)),
    )

-- or may not go
pub passes_stay : (g : GraphView) (within : List Bool) (t first s : ℕ) (order new : List ℕ)
    → Comes g within first order s new → go g s t ≡ None → Passes g within t first order s new
passes_stay g within t first s order new come none = (
  come.0,
  come.1,
  subst (λ p. Meets g first p t) (append-nil come.0)
      (meets_right g come.0 [] first s t (way_walk g within come.0 first s come.1.way) none),
)

-- each of the first threads is met, and one more
pub passes_more : (g : GraphView) (within : List Bool) (n first s q : ℕ) (order mid new : List ℕ)
    → PassesAll g within n first order s mid → Passes g within n s mid q new
    → PassesAll g within (n + 1) first order q new
passes_more g within n first s q order mid new all one = (
  all.0 ++ one.0,
  goes_on g within first s q order mid new all.0 one.0 all.1 one.1,
  λ t lt. elim (cases_eq t n) [
    | inl is ↦ subst (Meets g first (all.0 ++ one.0)) (sym is)
        (meets_right g all.0 one.0 first s n (way_walk g within all.0 first s all.1.way) one.2)
    | inr apart ↦ meets_left g all.0 one.0 first t (all.2 t (omega arith))
  ],
)

not_empty : (p : List ℕ) (t : ℕ) → p ++ t ∷ [] ≢ []
not_empty [] t e = cc
not_empty (u ∷ p) t e = cc

-- then a move
pub circles : (g : GraphView) (within : List Bool) (n first s t q : ℕ) (order mid new : List ℕ)
    → PassesAll g within n first order s mid → go g s t ≡ Some q → In within q → new ≡ mid ++ t ∷ []
    → Circles g within n first order q new
circles g within n first s t q order mid new all e there added =
    let one = goes_one g within s q t mid new (way_end g within all.0 first s all.1.way) there e added in (
      all.0 ++ t ∷ [],
      goes_on g within first s q order mid new all.0 (t ∷ []) all.1 one,
      λ u lt. meets_left g all.0 (t ∷ []) first u (all.2 u lt),
      not_empty all.0 t,
    )

-- where a thread can be met, the state has a rank
pub meets_ranked : (g : GraphView) (within goals : List Bool) (ranks : List ℕ) (t s : ℕ) → length within ≡ g.states
    → AreMarks g.states goals (IsMet g within t) → AreAllRanks g within goals ranks → In within s
    → ReachesMet g within t s → rank_of g ranks s < g.states
meets_ranked g within goals ranks t s size m all i r =
    let there : s < g.states = subst (λ z. s < z) size (in_there within s i) in
    let end : r.1 < g.states = subst (λ z. r.1 < z) size (in_there within r.1 (way_end g within r.0 s r.1 r.2)) in
    reaches_ranked g within goals ranks s all there (r.0, r.1, r.2, (m.is r.1 end).1 r.3)

get_zero : (n s : ℕ) → get_or {A = ℕ} (replicate n 0) s 0 ≡ 0
get_zero zero s = refl
get_zero (suc n) zero = refl
get_zero (suc n) (suc s) = get_zero n s

-- a run begins to look for a round
pub running_begun : (g : GraphView) (within : List Bool) (n s : ℕ) (order seen : List ℕ) → In within s
    → IsWalk g 0 order s → seen ≡ replicate g.states 0 → IsRunning g within n s order seen s
running_begun g within n s order seen i w is = record {
  size = ap length is ∙ length-replicate g.states 0;
  inside = i;
  there = w;
  came = ([], refl);
  seen_at = λ z lt. absurd (let none = ap (λ l. get_or l z 0) is ∙ get_zero g.states z in omega arith);
}

some_length : (p : List ℕ) → p ≢ [] → 0 < length p
some_length [] e = absurd (e refl)
some_length (x ∷ p) e = omega arith

-- where it is, is seen, and it goes on
module _ (g : GraphView) (within : List Bool) (n first s q : ℕ) (order part : List ℕ) (way : IsWay g within s part q)
    (meets : (t : ℕ) → t < n → Meets g s part t) (some : part ≢ []) where
  here_seen : IsWalk g 0 order s → ((p : List ℕ) × IsWalk g first p s)
      → IsSeen g n first (order ++ part) q (length order) s
  here_seen there came = record {
    inside = let more = some_length part some in omega (arith, length-append order part);
    before = subst (λ p. IsWalk g 0 p s) (sym (take_at order part (length order) refl)) there;
    came = came;
    back = subst (λ p. IsWalk g s p q) (sym (drop_at order part (length order) refl)) (way_walk g within part s q way);
    meets = λ t lt. subst (λ p. Meets g s p t) (sym (drop_at order part (length order) refl)) (meets t lt);
  }

  still_seen : (at z : ℕ) → IsSeen g n first order s at z → IsSeen g n first (order ++ part) q at z
  still_seen at z old = record {
    inside = omega (arith, old.inside, length-append order part);
    before = subst (λ p. IsWalk g 0 p z) (sym (take-append-le at order part (omega (arith, old.inside)))) old.before;
    came = old.came;
    back = subst (λ p. IsWalk g z p q) (sym (drop-append-le at order part (omega (arith, old.inside))))
        (walk_append g (drop at order) part z s q old.back (way_walk g within part s q way));
    meets = λ t lt. subst (λ p. Meets g z p t) (sym (drop-append-le at order part (omega (arith, old.inside))))
        (meets_left g (drop at order) part z t (old.meets t lt));
  }

  pub running_more : (seen : List ℕ) → IsRunning g within n first order seen s → s < g.states
      → IsRunning g within n first (order ++ part) (set seen s (length order + 1)) q
  running_more seen old lt = record {
    size = length-set seen s (length order + 1) ∙ old.size;
    inside = way_end g within part s q way;
    there = walk_append g order part 0 s q old.there (way_walk g within part s q way);
    came = (old.came.0 ++ part, walk_append g old.came.0 part first s q old.came.1 (way_walk g within part s q way));
    seen_at = λ z some. elim (cases_eq z s) [
      | inl is ↦
          let at : get_or (set seen s (length order + 1)) z 0 ≡ length order + 1 =
          ap (λ x. get_or (set seen s (length order + 1)) x 0) is
          ∙ get_or-set_same seen s (length order + 1) 0 (omega (arith, old.size)) in
          let less : length order ≡ get_or (set seen s (length order + 1)) z 0 - 1 = omega arith in
          subst (λ x. IsSeen g n first (order ++ part) q x z) less
          (subst (IsSeen g n first (order ++ part) q (length order)) (sym is) (here_seen old.there old.came))
      | inr apart ↦
          let at = get_or-set_other seen s z (length order + 1) 0 apart in
          subst (λ x. IsSeen g n first (order ++ part) q (x - 1) z) (sym at)
          (still_seen (get_or seen z 0 - 1) z (old.seen_at z (subst (λ x. 0 < x) at some)))
    ];
  }

pub running_on : (g : GraphView) (within : List Bool) (n first s q m : ℕ) (order new seen : List ℕ)
    → IsRunning g within n first order seen s → length within ≡ g.states → Circles g within n s order q new
    → length order + 1 ≡ m → IsRunning g within n first new (set seen s m) q
running_on g within n first s q m order new seen old size round at =
    subst (λ k. IsRunning g within n first new (set seen s k) q) at
    (subst (λ l. IsRunning g within n first l (set seen s (length order + 1)) q) (sym round.1.added)
    (running_more g within n first s q order round.0 round.1.way round.2 round.3 seen old
    (subst (λ z. s < z) size (in_there within s old.inside))))

-- what was seen twice is a round
pub round_seen : (g : GraphView) (n first s at : ℕ) (order before round : List ℕ) → IsSeen g n first order s at s
    → before ≡ take at order → round ≡ drop at order → IsRoundFrom g n first before round s
round_seen g n first s at order before round seen b r = record {
  there = subst (λ p. IsWalk g 0 p s) (sym b) seen.before;
  came = seen.came;
  returns = record {
    some = λ none. absurd (let short : length (drop at order) ≡ 0 = ap length (sym r ∙ none) in
        let is = length-drop at order in omega (arith, seen.inside));
    back = subst (λ p. IsWalk g s p s) (sym r) seen.back;
  };
  meets = λ t lt. subst (λ p. Meets g s p t) (sym r) (seen.meets t lt);
}

-- or it isn't empty as it is
pub circles_so : (g : GraphView) (within : List Bool) (n first q : ℕ) (order new : List ℕ)
    → PassesAll g within n first order q new → length order < length new → Circles g within n first order q new
circles_so g within n first q order new all more = (
  all.0,
  all.1,
  all.2,
  λ none.
      let same = all.1.added ∙ (ap (λ p. order ++ p) none ∙ append-nil order) in
      let even : length new ≡ length order = ap length same in
      omega arith,
)
