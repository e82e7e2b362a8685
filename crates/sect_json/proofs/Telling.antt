-- Sections are told one after another.
use Rattle.std.proofs.Common.{◌≡◌, ℕ, ◌+◌, List, [], ◌∷◌, ◌++◌, length, length-append, refl, sym, ap, subst, ◌∙◌, arith}
use Rattle.std.proofs.{Common.{inl, inr}, lemmas.Option.{slice_get_within}}
use Rattle.sect_lemmas.proofs.Places.{pushed_at}
use Rattle.serde_json.specs.Data.{Data}
use Rattle.sect_emit.specs.{Compiled.{CompiledView}, Explaining.{IsChained}}
use Rattle.sect_json.specs.{Values.{by_place}, Explaining.{explained_json}}
use Rattle.sect_json.specs.steps.Explained.{IsExplained, AreExplained}

-- behind others stands one more
by_place_behind : {A : Type 0} (of : ℕ → A → Data) (n : ℕ) (xs : List A) (x : A)
    → by_place of n (xs ++ x ∷ []) ≡ by_place of n xs ++ of (n + length xs) x ∷ []
by_place_behind of n [] x = ap (λ m. of m x ∷ []) (omega arith)
by_place_behind of n (y ∷ xs) x =
    ap (λ r. of n y ∷ r) (by_place_behind of (n + 1) xs x
    ∙ ap (λ m. by_place of (n + 1) xs ++ of m x ∷ []) (omega arith))

module _ (c : CompiledView) where
  pub none_explained : AreExplained c 0 []
  none_explained = record {
    all = [];
    chained = λ i chains at. absurd (let w = slice_get_within [] i chains at in omega (arith, w));
    counted = refl;
    told = refl;
  }

  -- the first sections, and the next
  pub one_more_explained : (n : ℕ) (values more : List Data) (value : Data) → AreExplained c n values
      → IsExplained c n value → more ≡ values ++ value ∷ [] → AreExplained c (n + 1) more
  one_more_explained n values more value had next pushed = record {
    all = had.all ++ next.chains ∷ [];
    chained = λ i chains at. elim (pushed_at had.all next.chains chains i at) [
      | inl is ↦ (
          let here : IsChained c i next.chains = subst (λ (m : ℕ). IsChained c m next.chains)
          (sym (is.0 ∙ had.counted)) next.chained in
          subst (IsChained c i) is.1 here)
      | inr before ↦ had.chained i chains before
    ];
    counted = omega (arith, length-append had.all (next.chains ∷ []), had.counted);
    told = pushed ∙ (ap (λ vs. vs ++ value ∷ []) had.told
        ∙ (ap (λ v. by_place (explained_json c) 0 had.all ++ v ∷ []) next.told
        ∙ (ap (λ m. by_place (explained_json c) 0 had.all ++ explained_json c m next.chains ∷ []) count
        ∙ sym (by_place_behind (explained_json c) 0 had.all next.chains))));
  }
    where
      count : n ≡ 0 + length had.all
      count = omega (arith, had.counted)
