-- The bytes of names lie in the text, and there are some.
use Rattle.std.proofs.Common.{◌≡◌, ℕ, zero, suc, List, [], ◌∷◌, map, Some, slice_get, subst}
use Rattle.sect_lemmas.proofs.Options.{none_or_some, some_injective}
use Rattle.sect_places.specs.{declared.name_use.NameSpan.{NameSpan}, Spans.{IsProper, AreProper}}

pub name_proper : (total : ℕ) (names : List NameSpan) (k : ℕ) (n : NameSpan)
    → AreProper total (map (λ (x : NameSpan). x.span) names) → slice_get names k ≡ Some n → IsProper total n.span
name_proper total [] k n h e = absurd (none_or_some n e)
name_proper total (x ∷ names) zero n h e =
    subst (λ (y : NameSpan). IsProper total y.span) (some_injective x n e) h.0
name_proper total (x ∷ names) (suc k) n h e = name_proper total names k n h.1 e
