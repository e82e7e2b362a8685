-- Where the steps of the first node stand.
use Rattle.std.proofs.Common.{◌≡◌, ℕ, zero, suc, ◌+◌, ◌<◌, List, [], ◌∷◌, Option, Some, None, set, length, inl}
use Rattle.std.proofs.{Common.{inr, refl, sym, ap, ◌∙◌, subst, arith}, lemmas.Bool.{cases_eq, cases_lt}}
use Rattle.std.proofs.lemmas.List.{length-set}
use Rattle.std.specs.Prelude.{slice_get}
use Rattle.sect_lemmas.specs.Lists.{Has}
use Rattle.sect_lemmas.proofs.{Membership.{Has-slice_get}, Places.{one_at}, Replaced.{set_cases}}
use Rattle.sect_chains.specs.declared.keep.KeptLink.{KeptLink}
use Rattle.sect_chains.specs.steps.Starting.{AreStarts}

set_here : {X : Type 0} (xs : List X) (n : ℕ) (x : X) → n < length xs → slice_get (set xs n x) n ≡ Some x
set_here [] n x within = absurd (omega (arith, within))
set_here (z ∷ zs) zero x within = refl
set_here (z ∷ zs) (suc n) x within = set_here zs n x (omega (arith, within))

set_there : {X : Type 0} (xs : List X) (n : ℕ) (x : X) (i : ℕ) → (i ≡ n → ⊥) → slice_get (set xs n x) i ≡ slice_get xs i
set_there [] n x i other = refl
set_there (z ∷ zs) zero x zero other = absurd (other refl)
set_there (z ∷ zs) zero x (suc i) other = refl
set_there (z ∷ zs) (suc n) x zero other = refl
set_there (z ∷ zs) (suc n) x (suc i) other = set_there zs n x i (λ e. other (ap suc e))

-- no step is below the first
pub starts_none : (count : ℕ) (steps : List KeptLink) (starts : List (Option ℕ)) → length starts ≡ count
    → ((o : Option ℕ) → Has starts o → o ≡ None) → AreStarts count steps 0 starts
starts_none count steps starts long none = record {
  counted = long;
  right = λ n i at. (let e = none (Some i) (Has-slice_get starts n (Some i) at) in absurd cc);
  all = λ i x lt. absurd (omega (arith, lt));
}

module _ (count : ℕ) (steps : List KeptLink) (i : ℕ) (starts : List (Option ℕ)) (x : KeptLink)
    (at : slice_get steps i ≡ Some x)
    (before : AreStarts count steps i starts) where
  -- the next step is at the first node
  pub starts_put : x.node ≡ 0 → x.number < count → AreStarts count steps (i + 1) (set starts x.number (Some i))
  starts_put first within = record {
    counted = length-set starts x.number (Some i) ∙ before.counted;
    right = λ n k got. elim (set_cases starts x.number (Some i) n (Some k) got) [
      | inl e ↦ (let same : i ≡ k = (let f = e.1 in cc) in
          (x, subst (λ j. slice_get steps j ≡ Some x) same at, first, sym e.0))
      | inr old ↦ before.right n k old
    ];
    all = λ k y lt there node. elim (cases_eq y.number x.number) [
      | inl e ↦ (
        i,
        subst (λ n. slice_get (set starts x.number (Some i)) n ≡ Some (Some i)) (sym e)
            (set_here starts x.number (Some i) (omega (arith, within, before.counted))),
      )
      | inr other ↦ elim (cases_lt k i) [
        | inl less ↦ (let r = before.all k y less there node in
            (r.0, set_there starts x.number (Some i) y.number other ∙ r.1))
        | inr past ↦ (let e : k ≡ i = omega (arith, lt, past) in
            let same : y ≡ x = one_at steps i y x (subst (λ n. slice_get steps n ≡ Some y) e there) at in
            absurd (other (ap (λ (z : KeptLink). z.number) same)))
      ]
    ];
  }

  -- it is at another
  pub starts_skip : (x.node ≡ 0 → ⊥) → AreStarts count steps (i + 1) starts
  starts_skip other = record {
    counted = before.counted;
    right = before.right;
    all = λ k y lt there node. elim (cases_lt k i) [
      | inl less ↦ before.all k y less there node
      | inr past ↦ (let e : k ≡ i = omega (arith, lt, past) in
          let same : y ≡ x = one_at steps i y x (subst (λ n. slice_get steps n ≡ Some y) e there) at in
          absurd (other (subst (λ (z : KeptLink). z.node ≡ 0) same node)))
    ];
  }
