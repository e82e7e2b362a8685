-- Where the items of a text stand.
use Rattle.std.specs.Prelude.{◌≡◌, ℕ, List, map, length}
use Rattle.sect_front.specs.{TreeView.{TreeView}, Front.{IsSpelled}, FaultPlaces.{token_span}, Grammar.{tokens_of}}
use Rattle.sect_front.specs.declared.span.Span.{Span}
use Rattle.sect_types.specs.Items.{items}
use Rattle.sect_places.specs.{Ranges.{item_tokens}, Spans.{span_in, AreProper}, Own.{AreOwn}}

-- the text spells the tree, and these are the spans of its items, in their order
pub record AreItemSpans (bytes : List ℕ) (tree : TreeView) (spans : List Span) : Type 0 where
  pub spelled : IsSpelled bytes tree
  -- each goes from the first byte of the item's first token to the last byte of its last
  pub are : spans ≡ map (span_in (map token_span spelled.places)) (item_tokens tree)
  -- its tokens are the item's own
  pub own : AreOwn (tokens_of tree) (item_tokens tree) (items tree)
  -- each item has one
  pub many : length spans ≡ length (items tree)
  -- which has a byte at least, and lies in the text
  pub proper : AreProper (length bytes) spans

-- these are the spans of the items of the tree that the text spells
abbrev pub HasItemSpans : List ℕ → List Span → Type 0
HasItemSpans bytes spans = (tree : TreeView) × AreItemSpans bytes tree spans
