-- A warning as contracts see it.
use Rattle.std.specs.Prelude.{ℕ, List, [], ◌∷◌, ◌++◌}
use Rattle.sect_front.specs.declared.span.Span.{Span}
use Rattle.sect_warnings.specs.declared.warning.Told.{Told}

-- what is told, the bytes that are marked, what is said of these, and what it means
pub record PlacedView : Type 0 where
  pub told : Told
  pub span : Span
  pub label : List ℕ
  pub note : List ℕ

-- what is said stands behind a sign; where nothing is, the sign is left out
abbrev pub behind : List ℕ → List ℕ → List ℕ
behind sign [] = []
behind sign (b ∷ bs) = sign ++ b ∷ bs
