-- A procedure that is reached is reached by no more calls than there are procedures.
use Rattle.std.specs.{Prelude.{◌||◌, ◌-◌, ◌<◌, Bool, true, false, nat_eq, eqb}, List.{list_any, IsDistinct}}
use Rattle.std.proofs.Common.{◌≡◌, inl, inr, ℕ, zero, suc, List, [], ◌∷◌, refl, sym, arith, subst, length, slice_get}
use Rattle.std.proofs.lemmas.Map.Steps.{length-le_from_distinct_below}
use Rattle.std.proofs.lemmas.Bool.{or_left, or_right, eqb-true, or_cases, cases_Bool}
use Rattle.sect_front.specs.declared.tree.Procedure.{Procedure}
use Rattle.sect_types.specs.Sums.{calls_in}
use Rattle.sect_types.proofs.EnoughLaws.{witness, none_equal, Calls, same, reaches_step, reaches_up, calls_there, there}
use Rattle.sect_types.specs.steps.Search.{reaches, returns}

-- the procedures between q and p on a way of calls
abbrev pub Way : List Procedure → List ℕ → ℕ → ℕ → Type 0
Way ps [] q p = Calls ps q p
Way ps (r ∷ rs) q p = Calls ps q r × Way ps rs r p

way : (n : ℕ) (ps : List Procedure) (q p : ℕ) → reaches n ps q p ≡ true → (xs : List ℕ) × Way ps xs q p
way zero ps q p h = absurd (let off : false ≡ true = h in cc)
way (suc n) ps q p h =
    let w = witness (λ s. nat_eq s p || reaches n ps s p) (calls_in ps (slice_get ps q)) h in
    elim (or_cases (nat_eq w.0 p) (reaches n ps w.0 p) w.1) [
      | inl e ↦ ([], subst (λ y. Calls ps q y) (eqb-true w.0 p e) w.2)
      | inr e ↦ (let more = way n ps w.0 p e in (w.0 ∷ more.0, (w.2, more.1)))
    ]

by_way : (ps : List Procedure) (xs : List ℕ) (q p : ℕ) → Way ps xs q p → reaches (suc (length xs)) ps q p ≡ true
by_way ps [] q p h = reaches_step zero ps q p p h (or_left (nat_eq p p) false (same p))
by_way ps (r ∷ rs) q p h =
    reaches_step (suc (length rs)) ps q r p h.0
    (or_right (nat_eq r p) (reaches (suc (length rs)) ps r p) (by_way ps rs r p h.1))

-- a way that passes_by no procedure twice
record Straight (ps : List Procedure) (q p : ℕ) : Type 0 where
  between : List ℕ
  leads : Way ps between q p
  differ : IsDistinct eqb (q ∷ between)

-- what is left of one from a procedure that it passes_by
cut : (ps : List Procedure) (ys : List ℕ) (r p q : ℕ) → Way ps ys r p → IsDistinct eqb (r ∷ ys)
    → list_any (eqb q) (r ∷ ys) ≡ true → Straight ps q p
unfolding IsDistinct
cut ps [] r p q w d h = elim (or_cases (eqb q r) false h) [
  | inl e ↦ subst (λ x. Straight ps x p) (sym (eqb-true q r e)) (record { between = []; leads = w; differ = d })
  | inr e ↦ absurd (let off : false ≡ true = e in cc)
]
cut ps (y ∷ ys) r p q w d h = elim (or_cases (eqb q r) (list_any (eqb q) (y ∷ ys)) h) [
  | inl e ↦ subst (λ x. Straight ps x p) (sym (eqb-true q r e)) (record { between = y ∷ ys; leads = w; differ = d })
  | inr e ↦ cut ps ys y p q w.1 d.1 e
]

straighten : (ps : List Procedure) (xs : List ℕ) (q p : ℕ) → Way ps xs q p → Straight ps q p
unfolding IsDistinct
straighten ps [] q p w = record { between = []; leads = w; differ = (tt, tt) }
straighten ps (r ∷ rs) q p w =
    let s = straighten ps rs r p w.1 in
    elim (cases_Bool (list_any (eqb q) (r ∷ s.between))) [
      | inl e ↦ cut ps s.between r p q s.leads s.differ e
      | inr e ↦ record {
        between = r ∷ s.between;
        leads = (w.0, s.leads);
        differ = (none_equal q (r ∷ s.between) e, s.differ);
      }
    ]

first_call : (ps : List Procedure) (xs : List ℕ) (q p : ℕ) → Way ps xs q p → q < length ps
first_call ps [] q p w = there ps q (slice_get ps q) refl (calls_there ps (slice_get ps q) p w)
first_call ps (r ∷ rs) q p w = there ps q (slice_get ps q) refl (calls_there ps (slice_get ps q) r w.0)

all_below : (ps : List Procedure) (xs : List ℕ) (q p : ℕ) → Way ps xs q p → (x : ℕ) → list_any (eqb x) (q ∷ xs) ≡ true
    → x < length ps
all_below ps [] q p w x h = elim (or_cases (eqb x q) false h) [
  | inl e ↦ subst (λ y. y < length ps) (sym (eqb-true x q e)) (first_call ps [] q p w)
  | inr e ↦ absurd (let off : false ≡ true = e in cc)
]
all_below ps (r ∷ rs) q p w x h = elim (or_cases (eqb x q) (list_any (eqb x) (r ∷ rs)) h) [
  | inl e ↦ subst (λ y. y < length ps) (sym (eqb-true x q e)) (first_call ps (r ∷ rs) q p w)
  | inr e ↦ all_below ps rs r p w.1 x e
]

by_straight : (ps : List Procedure) (q p : ℕ) → Straight ps q p → reaches (length ps) ps q p ≡ true
by_straight ps q p s =
    let few = length-le_from_distinct_below (q ∷ s.between) (length ps) s.differ (all_below ps s.between q p s.leads) in
    reaches_up (length ps - suc (length s.between)) (suc (length s.between)) (length ps) ps q p (omega (arith, few))
    (by_way ps s.between q p s.leads)

-- what is reached by any number of calls is reached by as many as there are procedures
pub reached : (n : ℕ) (ps : List Procedure) (q p : ℕ) → reaches n ps q p ≡ true → reaches (length ps) ps q p ≡ true
reached n ps q p h = let w = way n ps q p h in by_straight ps q p (straighten ps w.0 q p w.1)

-- what calls a procedure that is p or reaches it, reaches p
pub returns_caller : (ps : List Procedure) (p q r : ℕ) → Calls ps q r → returns ps p r ≡ true → returns ps p q ≡ true
returns_caller ps p q r c h =
    or_right (nat_eq q p) (reaches (length ps) ps q p)
    (reached (suc (length ps)) ps q p (reaches_step (length ps) ps q r p c h))

closed_way : (m : ℕ → Bool) (ps : List Procedure) (xs : List ℕ) (q p : ℕ) → m p ≡ true
    → ((x y : ℕ) → Calls ps x y → m y ≡ true → m x ≡ true) → Way ps xs q p → m q ≡ true
closed_way m ps [] q p e c w = c q p w e
closed_way m ps (r ∷ rs) q p e c w = c q r w.0 (closed_way m ps rs r p e c w.1)

-- marks that p has, and each that calls a marked one, are on all that are p or reach it
pub closed_returns : (m : ℕ → Bool) (ps : List Procedure) (p q : ℕ) → m p ≡ true
    → ((x y : ℕ) → Calls ps x y → m y ≡ true → m x ≡ true) → returns ps p q ≡ true → m q ≡ true
closed_returns m ps p q e c h = elim (or_cases (nat_eq q p) (reaches (length ps) ps q p) h) [
  | inl same ↦ subst (λ x. m x ≡ true) (sym (eqb-true q p same)) e
  | inr more ↦ (let w = way (length ps) ps q p more in closed_way m ps w.0 q p e c w.1)
]
