-- The tokens of an item, read off a text.
use Rattle.std.specs.Prelude.{◌≡◌, ◌<◌, ◌≤◌, ◌+◌, ℕ, List, length, map, get_or}
use Rattle.sect_front.specs.{TreeView.{TreeView}, Front.{IsSpelled}, FaultPlaces.{token_span}, Grammar.{tokens_of}}
use Rattle.sect_front.specs.declared.span.Span.{Span}
use Rattle.sect_places.specs.{Spans.{AreInOrder, no_span}, Openings.{IsOpening}, declared.opening.Opening.{Opening}}
use Rattle.sect_lint.specs.{Details.{own_range, own_tokens, own_spans}, declared.layout.Words.{Words}}

-- the text spells the tree, and these are the tokens of the item, with their bytes
pub record AreOwnWords (source : List ℕ) (tree : TreeView) (item : ℕ) (words : Words) : Type 0 where
  pub spelled : IsSpelled source tree
  pub tokens : words.tokens.items ≡ own_tokens tree item
  pub spans : (by : IsSpelled source tree) → words.spans.items ≡ own_spans tree (map token_span by.places) item
  pub order : AreInOrder 0 (length source) words.spans.items
  pub within : (own_range tree item).first + (own_range tree item).count ≤ length (tokens_of tree)
  pub many : length words.spans.items ≡ (own_range tree item).count
  pub some : 0 < length words.spans.items

-- of the tokens of the item the first are kept
pub record IsOwnOpening (source : List ℕ) (tree : TreeView) (item : ℕ) (o : Opening) : Type 0 where
  pub opening : (by : IsSpelled source tree)
      → IsOpening (own_tokens tree item) (own_spans tree (map token_span by.places) item)
      o.tokens.items o.spans.items o.values o.last
  pub order : (by : IsSpelled source tree)
      → AreInOrder 0 (length source) (own_spans tree (map token_span by.places) item)
  pub many : (by : IsSpelled source tree)
      → length (own_spans tree (map token_span by.places) item) ≡ (own_range tree item).count
  pub some : 0 < (own_range tree item).count

-- the bytes of all of them
abbrev pub span_of : Opening → Span
span_of o = record { start = (get_or o.spans.items 0 no_span).start; end = o.last.end }
