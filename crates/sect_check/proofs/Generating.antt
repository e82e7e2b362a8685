-- What a node generates.
use Rattle.std.proofs.Common.{◌≡◌, ◌↔◌, ℕ, ◌+◌, ◌<◌, List, Option, Some, None, Bool, true, subst, take, length, get_or}
use Rattle.std.proofs.{Common.{inl, inr, arith}, lemmas.Option.{slice_get_within}}
use Rattle.sect_types.specs.declared.expansion.action.Label.{Label}
use Rattle.sect_graph.specs.declared.flow.Node.{Node}
use Rattle.sect_names.specs.{declared.lock.Lock.{Lock}, Schemes.{SchemeView}, Locks.{CoveredBy}, Carrying.{CarriedBack}}
use Rattle.sect_names.specs.Chains.{link, IsGeneratedAt}
use Rattle.sect_check.specs.{declared.claims.Claims.{Claims}, Valid.{list_at, CoversGenerated, AreCarriedInto}}
use Rattle.sect_check.proofs.Scanning.{each_more}

module _ (s : SchemeView) (t : ℕ) (last : List Lock) (g : List Node) (j : ℕ) where
  module _ (o : Option Lock) (tells : (l : Lock) → (o ≡ Some l) ↔ IsGeneratedAt s t last g (link j l)) where
    -- the one lock that is generated is covered
    pub covers_one : (l : Lock) → o ≡ Some l → (c : Claims) (b : Bool) → ((b ≡ true) ↔ CoveredBy s (list_at c j) l)
        → (b ≡ true) ↔ CoversGenerated s t last g c j
    covers_one l is c b covered = (
      λ yes_so m h. (let e = (tells m).1 h in let same : l ≡ m = cc in
          subst (CoveredBy s (list_at c j)) same (covered.0 yes_so)),
      λ all. covered.1 (all l ((tells l).0 is)),
    )

    -- nothing is generated
    pub covers_none : o ≡ None → (c : Claims) → CoversGenerated s t last g c j
    covers_none is c = λ m h. (let e = (tells m).1 h in absurd cc)

    -- a lock is generated exactly where it is the one that is
    pub generated_one : (l m : Lock) → o ≡ Some l → (b : Bool) → ((b ≡ true) ↔ (l ≡ m))
        → (b ≡ true) ↔ IsGeneratedAt s t last g (link j m)
    generated_one l m is b same = (
      λ yes_so. subst (λ x. IsGeneratedAt s t last g (link j x)) (same.0 yes_so) ((tells l).0 is),
      λ h. same.1 (let e = (tells m).1 h in let found : l ≡ m = cc in found),
    )

    -- no lock is, where none is
    pub generated_none : (m : Lock) → o ≡ None → IsGeneratedAt s t last g (link j m) → ⊥
    generated_none m is h = let e = (tells m).1 h in absurd cc

-- what is generated up to the exit is all
pub all_covered : (s : SchemeView) (t : ℕ) (last : List Lock) (g : List Node) (c : Claims) (n : ℕ) → length g < n
    → ((m : ℕ) → m < n → CoversGenerated s t last g c m) → (m : ℕ) → CoversGenerated s t last g c m
all_covered s t last g c n past covers m = λ l h. elim h [
  | inl x ↦ covers m (let w = slice_get_within g m x.0 x.1 in omega (arith, w, past)) l (inl x)
  | inr e ↦ covers m (omega (arith, past, e.0)) l (inr e)
]

-- one lock more of those that are carried back
pub carried_more : (s : SchemeView) (t : ℕ) (step : Label) (list locks : List Lock) (i : ℕ) (x : Lock)
    → i < length locks → x ≡ get_or locks i x
    → AreCarriedInto s t step list (take i locks) → ((r : Lock) → CarriedBack s t step x r → CoveredBy s list r)
    → AreCarriedInto s t step list (take (i + 1) locks)
carried_more s t step list locks i x within is before here = λ l r h k.
    each_more (λ l. (r : Lock) → CarriedBack s t step l r → CoveredBy s list r) locks i x within is
    (λ y a q b. before y q a b) here l h r k
