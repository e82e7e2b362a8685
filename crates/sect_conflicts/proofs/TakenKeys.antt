-- What sections take, one after another.
use Rattle.std.proofs.Common.{◌≡◌, ℕ, ◌+◌, List, [], ◌∷◌, ◌++◌, length, length-append, map, sym, ap, ◌∙◌, subst}
use Rattle.std.proofs.{Common.{inl, inr, arith, refl}, lemmas.List.{length-map}}
use Rattle.std.specs.{Prelude.{slice_index_or}, List.{flat_map}}
use Rattle.sect_lemmas.proofs.{Places.{pushed_at}, Replaced.{slice_get-map}}
use Rattle.sect_types.specs.{Sections.{sections_of}}
use Rattle.sect_emit.specs.{Compiled.{CompiledView, program_of}}
use Rattle.sect_conflicts.specs.{declared.taken.SectionKeys.{SectionKeys}, Conflicts.{Selects, set_at}}
use Rattle.sect_conflicts.specs.Taken.{TakenView, AreTaken, IsKeyMet, IsPathMet, looked_of}
use Rattle.sect_conflicts.specs.steps.Taking.{IsTaken, AreFirstTaken, section_fields}

-- one section more
pub taken_more : (c : CompiledView) (i : ℕ) (taken : List SectionKeys) (x : SectionKeys) → AreFirstTaken c i taken
    → IsTaken c i x → AreFirstTaken c (i + 1) (taken ++ x ∷ [])
taken_more c i taken x before here = (
  (let many = before.0 in omega (arith, many, length-append taken (x ∷ []))),
  λ k y at. elim (pushed_at taken x y k at) [
    | inl e ↦ subst (λ n. IsTaken c n y) (sym (e.0 ∙ before.0)) (subst (IsTaken c i) e.1 here)
    | inr was ↦ before.1 k y was
  ],
)

abbrev pub shown : List SectionKeys → TakenView
shown taken = record {
  parts = map (λ (k : SectionKeys). k.part.items) taken;
  paths = map (λ (k : SectionKeys). k.paths.items) taken;
}

-- all of them
pub all_taken : (c : CompiledView) (n : ℕ) (taken : List SectionKeys) → n ≡ length (sections_of (program_of c).texts)
    → AreFirstTaken c n taken → AreTaken c (shown taken)
all_taken c n taken all are = record {
  part_count = length-map taken (λ (k : SectionKeys). k.part.items) ∙ are.0 ∙ all;
  path_count = length-map taken (λ (k : SectionKeys). k.paths.items) ∙ are.0 ∙ all;
  parts = λ i s kept at has.
      let of = slice_get-map (λ (k : SectionKeys). k.part.items) taken i kept has in
      subst (Selects (IsKeyMet c s.thread) (slice_index_or c.parts i [])) of.2 ((are.1 i of.0 of.1).part s at);
  paths = λ i s kept at has.
      let of = slice_get-map (λ (k : SectionKeys). k.paths.items) taken i kept has in
      subst (Selects (IsPathMet c s.thread) (set_at c i)) of.2 ((are.1 i of.0 of.1).paths s at);
}

-- the fields that the paths of the sections follow
pub looked_shown : (taken : List SectionKeys)
    → flat_map section_fields taken ≡ looked_of (shown taken)
looked_shown [] = refl
looked_shown (k ∷ taken) = ap (λ fs. section_fields k ++ fs) (looked_shown taken)
