-- A text has no more tokens than bytes.
use Rattle.std.proofs.Common.{ℕ, ◌+◌, ◌≤◌, List, [], ◌∷◌, length, map, arith, refl}
use Rattle.sect_front.specs.{TreeView.{TreeView}, Front.{IsSpelled}, FaultPlaces.{token_span}, Grammar.{tokens_of}}
use Rattle.sect_front.specs.declared.span.Span.{Span}
use Rattle.sect_places.specs.Spans.{AreInOrder}
use Rattle.sect_places.proofs.Whole.{spans_count, spans_order}

in_bytes : (from total : ℕ) (ss : List Span) → from ≤ total → AreInOrder from total ss → from + length ss ≤ total
in_bytes from total [] le h = omega (arith, le)
in_bytes from total (s ∷ ss) le h = omega (arith, h.0, h.1, in_bytes s.end total ss h.2 h.3)

pub tokens_fit : (bytes : List ℕ) (tree : TreeView) → IsSpelled bytes tree → length (tokens_of tree) ≤ 1048576
tokens_fit bytes tree s =
    omega (
      arith,
      in_bytes 0 (length bytes) (map token_span s.places) (omega arith)
          (spans_order bytes tree s (map token_span s.places) refl),
      spans_count bytes tree s (map token_span s.places) refl,
      s.fits,
    )
