-- Sections that are drawn one after another.
use Rattle.std.proofs.Common.{ℕ, ◌+◌, List, [], ◌∷◌, ◌++◌, length-append, refl, sym, ap, ◌∙◌, subst, arith, inl, inr}
use Rattle.std.proofs.{lemmas.Grind.{flat_map-append}, lemmas.List.{append-nil}, lemmas.Option.{slice_get_within}}
use Rattle.std.specs.List.{flat_map}
use Rattle.sect_lemmas.proofs.Places.{pushed_at}
use Rattle.sect_emit.specs.Compiled.{CompiledView}
use Rattle.sect_draw.specs.Graphs.{IsCluster, AreClusters}

pub no_cluster : (c : CompiledView) (first : ℕ) → AreClusters c first 0 []
no_cluster c first = record {
  all = [];
  each = λ n text at. absurd (let w = slice_get_within [] n text at in omega (arith, w));
  counted = refl;
  printed = refl;
}

pub one_cluster : (c : CompiledView) (first n : ℕ) (bytes text : List ℕ) → AreClusters c first n bytes
    → IsCluster c (first + n) text → AreClusters c first (n + 1) (bytes ++ text)
one_cluster c first n bytes text so here = record {
  all = so.all ++ text ∷ [];
  each = λ m other at. elim (pushed_at so.all text other m at) [
    | inl new ↦ subst (IsCluster c (first + m)) new.1
        (subst (λ z. IsCluster c (first + z) text) (sym so.counted ∙ sym new.0) here)
    | inr old ↦ so.each m other old
  ];
  counted = length-append so.all (text ∷ []) ∙ ap (λ z. z + 1) so.counted;
  printed = ap (λ z. z ++ text) so.printed
      ∙ (ap (λ z. flat_map (λ (t : List ℕ). t) so.all ++ z) (sym (append-nil text))
      ∙ sym (flat_map-append (λ (t : List ℕ). t) so.all (text ∷ [])));
}
