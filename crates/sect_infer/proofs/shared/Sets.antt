-- The locks of sections, one section after another.
use Rattle.std.proofs.Common.{ℕ, ◌+◌, List, [], ◌∷◌, ◌++◌, length-append, sym, ◌∙◌, subst, arith, inl, inr}
use Rattle.sect_lemmas.proofs.Places.{pushed_at}
use Rattle.sect_names.specs.Schemes.{SchemeView}
use Rattle.sect_infer.specs.Sets.{LocksView, AreInferredAt, AreInferredBelow}

-- one section more
pub one_inferred : (s : SchemeView) (n : ℕ) (all : List LocksView) (locks : LocksView) → AreInferredBelow s n all
    → AreInferredAt s n locks → AreInferredBelow s (n + 1) (all ++ locks ∷ [])
one_inferred s n all locks before here = record {
  count = (let e = before.count in omega (arith, e, length-append all (locks ∷ [])));
  each = λ i x at. elim (pushed_at all locks x i at) [
    | inl e ↦ subst (AreInferredAt s i) e.1 (subst (λ m. AreInferredAt s m locks) (sym (e.0 ∙ before.count)) here)
    | inr h ↦ before.each i x h
  ];
}
