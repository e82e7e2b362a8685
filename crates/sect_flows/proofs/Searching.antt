-- What is found is all that a value may flow to.
use Rattle.std.proofs.Common.{◌≡◌, ◌↔◌, ◌⊎◌, ◌∙◌, ◌<◌, ◌≤◌, ◌+◌, ℕ, List, [], ◌∷◌, ◌++◌, Some, length, refl, sym, ap}
use Rattle.std.proofs.Common.{subst, arith, inl, inr}
use Rattle.std.proofs.lemmas.{Bool.{cases_lt}, Option.{slice_get_within}}
use Rattle.std.specs.Prelude.{slice_get}
use Rattle.sect_lemmas.specs.Lists.{Has}
use Rattle.sect_lemmas.proofs.{Elements.{get_front}, Membership.{Has-slice_get}, Places.{Has-index}}
use Rattle.sect_graph.specs.Graphs.{GraphView}
use Rattle.sect_flows.specs.declared.point.{LocalAt.{LocalAt}, ProgramPoint.{ProgramPoint}}
use Rattle.sect_flows.specs.{Flows.{Flows, FlowsBy, IsSetAt, MayFlow}, steps.Searching.{AreFollowed}}
use Rattle.sect_flows.specs.steps.Adding.{Adds, IsNext}

-- one step more
one_more : (g : GraphView) (t : ℕ) (h : LocalAt) (via : List LocalAt) (k m : LocalAt) → FlowsBy g t h via k
    → Flows g t k m → FlowsBy g t h (via ++ m ∷ []) m
one_more g t h [] k m same flow = (subst (λ x. Flows g t x m) (sym same) flow, refl)
one_more g t h (x ∷ via) k m by flow = (by.0, one_more g t x via k m by.1 flow)

-- it may flow on
pub may_flow_on : (g : GraphView) (t : ℕ) (p : ProgramPoint) (x : ℕ) (k m : LocalAt) → MayFlow g t p x k
    → Flows g t k m → MayFlow g t p x m
may_flow_on g t p x k m (h, via, set, by) flow = (h, via ++ m ∷ [], set, one_more g t h via k m by flow)

-- what stood at a place still does
still_at : (old new : List LocalAt) (i : ℕ) (h : LocalAt) → (more : List LocalAt) × (new ≡ old ++ more)
    → i < length old → slice_get new i ≡ Some h → slice_get old i ≡ Some h
still_at old new i h (more, longer) lt at =
    get_front old more i h lt (subst (λ xs. slice_get xs i ≡ Some h) longer at)

-- those that the local at the next place flows to are found too
pub followed_on : (g : GraphView) (t : ℕ) (p : ProgramPoint) (x : ℕ) (old new : List LocalAt) (n : ℕ)
    → n < length old → AreFollowed g t p x old n → Adds (IsNext g t old n) old new
    → AreFollowed g t p x new (n + 1)
followed_on g t p x old new n within done added = record {
  right = λ k h. elim ((added.each k).0 h) [
    | inl before ↦ done.right k before
    | inr next ↦ (let (m, at, flow) = next in
        may_flow_on g t p x m k (done.right m (Has-slice_get old n m at)) flow)
  ];
  begun = λ k set. (added.each k).1 (inl (done.begun k set));
  followed = λ i h k lt at flow. elim (cases_lt i n) [
    | inl less ↦ (added.each k).1 (inl (done.followed i h k less
        (still_at old new i h added.grown (omega (arith, less, within)) at) flow))
    | inr more ↦ (let same : i ≡ n = omega (arith, lt, more) in
        (added.each k).1 (inr (
          h,
          still_at old new n h added.grown within (subst (λ j. slice_get new j ≡ Some h) same at),
          flow,
        )))
  ];
}

-- where all have been followed, what a found local flows to by any way is found
all_by : (g : GraphView) (t : ℕ) (p : ProgramPoint) (x : ℕ) (found : List LocalAt) (n : ℕ) → length found ≤ n
    → AreFollowed g t p x found n → (h : LocalAt) (via : List LocalAt) (k : LocalAt) → Has found h
    → FlowsBy g t h via k → Has found k
all_by g t p x found n all done h [] k there same = subst (Has found) same there
all_by g t p x found n all done h (m ∷ via) k there by =
    let (i, at) = Has-index found h there in
    let lt : i < length found = slice_get_within found i h at in
    all_by g t p x found n all done m via k (done.followed i h m (omega (arith, lt, all)) at by.0) by.1

-- where all have been followed, these are all that the value may flow to
pub are_all : (g : GraphView) (t : ℕ) (p : ProgramPoint) (x : ℕ) (found : List LocalAt) (n : ℕ) → length found ≤ n
    → AreFollowed g t p x found n → (k : LocalAt) → Has found k ↔ MayFlow g t p x k
are_all g t p x found n all done k = (
  done.right k,
  λ flow. (let (h, via, set, by) = flow in all_by g t p x found n all done h via k (done.begun h set) by),
)
