-- Keys and paths of other threads' sections.
use Rattle.std.proofs.Common.{◌≡◌, ℕ, ◌+◌, ◌<◌, ◌++◌, List, [], ◌∷◌, length, take, get_or, sym, ap, ◌∙◌, subst}
use Rattle.std.proofs.lemmas.{List.{take_more}, Option.{slice_get_within}}
use Rattle.sect_lemmas.proofs.Places.{at_of}
use Rattle.sect_types.specs.Sections.{sections_of}
use Rattle.sect_emit.specs.Compiled.{CompiledView, program_of}
use Rattle.sect_conflicts.specs.{declared.profile.Profile.{Profile}, Selecting.{Adds}, Taken.{IsOfOther}}
use Rattle.sect_conflicts.specs.steps.Profiles.{IsProfile}
use Rattle.sect_conflicts.proofs.shared.Selecting.{adds_both}

-- a section whose profile has thread u isn't one of another, and each else is
module _ (c : CompiledView) (u j : ℕ) (x : Profile) (is : IsProfile c j x) where
  pub own_section : x.thread ≡ u → IsOfOther c u j → ⊥
  own_section same other = other.2 (sym (is.thread other.0 other.1) ∙ same)

  pub other_section : (x.thread ≡ u → ⊥) → j < length (sections_of (program_of c).texts) → IsOfOther c u j
  other_section differ within =
      let of = at_of (sections_of (program_of c).texts) j within in
      (of.0, of.1, λ e. differ (is.thread of.0 of.1 ∙ e))

-- it is there
pub other_within : (c : CompiledView) (u j : ℕ) → IsOfOther c u j → j < length (sections_of (program_of c).texts)
other_within c u j other = slice_get_within (sections_of (program_of c).texts) j other.0 other.1

-- the next element is chosen or not
pub adds_next : {X : Type 0} (P : X → Type 0) (xs : List X) (i : ℕ) (x : X) (old mid new : List X) → i < length xs
    → x ≡ get_or xs i x → Adds P (take i xs) old mid → Adds P (x ∷ []) mid new → Adds P (take (i + 1) xs) old new
adds_next P xs i x old mid new within is before here =
    subst (λ ys. Adds P ys old new) (sym (take_more xs i x within ∙ ap (λ z. take i xs ++ z ∷ []) (sym is)))
    (adds_both P (take i xs) (x ∷ []) old mid new before here)
