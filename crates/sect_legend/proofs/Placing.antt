-- Places that are in the text.
use Rattle.std.proofs.Common.{◌≡◌, ◌≤◌, ℕ, List, Some, arith, subst}
use Rattle.std.proofs.lemmas.Option.{get_or_from_slice_get, slice_get_within}
use Rattle.std.specs.Prelude.{All, slice_get}
use Rattle.sect_front.specs.{FaultPlaces.{IsWithin}, declared.span.Span.{Span}}

-- one of some spans that are in a text of so many bytes begins in it
pub head_within : (total : ℕ) (heads : List Span) (i : ℕ) (s : Span) → All (IsWithin total) heads
    → slice_get heads i ≡ Some s → s.start ≤ total
head_within total heads i s all at =
    let here = subst (IsWithin total) (get_or_from_slice_get heads i s s at)
    (all i s (slice_get_within heads i s at)) in
    omega (arith, here.0, here.1)
