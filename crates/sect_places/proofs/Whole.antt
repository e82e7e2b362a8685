-- The items of a whole text.
use Rattle.std.proofs.Common.{◌≡◌, ℕ, suc, List, [], ◌∷◌, length, map, sym, ◌∙◌, ap, subst, arith}
use Rattle.std.proofs.lemmas.List.{length-map}
use Rattle.sect_front.specs.{TreeView.{TreeView}, TokenAt.{TokenAt}, Front.{IsSpelled}, FaultPlaces.{token_span}}
use Rattle.sect_front.specs.{Faults.{tokens_in}, Grammar.{tokens_of}, declared.span.Span.{Span}}
use Rattle.sect_types.specs.Items.{items}
use Rattle.sect_places.specs.{declared.range.TokenRange.{TokenRange}}
use Rattle.sect_places.specs.Ranges.{AreAmong}
use Rattle.sect_places.specs.{Ranges.{item_tokens}, Spans.{span_in, AreInOrder, AreProper}, Own.{AreOwn}}
use Rattle.sect_places.specs.Items.{AreItemSpans}
use Rattle.sect_places.proofs.{Past.{count_is}, Owned.{own_many}, Following.{in_order}, Within.{items_within}}
use Rattle.sect_places.proofs.shared.Ordered.{spans_proper}

pub tokens_length : (ps : List TokenAt) → length (tokens_in ps) ≡ length ps
tokens_length [] = λ i. 0
tokens_length (p ∷ ps) = ap suc (tokens_length ps)

-- as many spans as the tree has tokens
pub spans_count : (bytes : List ℕ) (tree : TreeView) (s : IsSpelled bytes tree) (tokens : List Span)
    → tokens ≡ map token_span s.places → length tokens ≡ length (tokens_of tree)
spans_count bytes tree s tokens e =
    omega (
      arith,
      ap length e,
      length-map s.places token_span,
      tokens_length s.places,
      ap length s.parses.tokens,
    )

pub spans_order : (bytes : List ℕ) (tree : TreeView) (s : IsSpelled bytes tree) (tokens : List Span)
    → tokens ≡ map token_span s.places → AreInOrder 0 (length bytes) tokens
spans_order bytes tree s tokens e =
    subst (AreInOrder 0 (length bytes)) (sym e)
    (in_order (length bytes) bytes s.places s.spells.0 0 s.spells.1 (omega arith))

pub ranges_within : (t : TreeView) → AreAmong (length (tokens_of t)) (item_tokens t)
ranges_within t = subst (λ n. AreAmong n (item_tokens t)) (sym (count_is t)) (items_within t)

pub item_spans_are : (bytes : List ℕ) (tree : TreeView) (s : IsSpelled bytes tree) (tokens out : List Span)
    (ranges : List TokenRange) → tokens ≡ map token_span s.places → ranges ≡ item_tokens tree
    → AreOwn (tokens_of tree) ranges (items tree) → out ≡ map (span_in tokens) ranges → AreItemSpans bytes tree out
item_spans_are bytes tree s tokens out ranges e f own g = record {
  spelled = s;
  are = g ∙ (λ i. map (span_in (e i)) (f i));
  own = subst (λ rs. AreOwn (tokens_of tree) rs (items tree)) f own;
  many = ap length g ∙ (length-map ranges (span_in tokens)
      ∙ own_many (tokens_of tree) ranges (items tree) own);
  proper = subst (AreProper (length bytes)) (sym g)
      (spans_proper (length bytes) tokens ranges (spans_order bytes tree s tokens e)
      (subst (λ rs. AreAmong (length tokens) rs) (sym f)
      (subst (λ n. AreAmong n (item_tokens tree)) (sym (spans_count bytes tree s tokens e)) (ranges_within tree))));
}
