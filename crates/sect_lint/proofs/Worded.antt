-- The bytes of an item, by those of its own tokens.
use Rattle.std.proofs.Common.{◌≡◌, ℕ, ◌+◌, ◌-◌, ◌<◌, ◌≤◌, List, [], ◌∷◌, length, map, take, drop, get_or, slice_get}
use Rattle.std.proofs.Common.{Some, refl, sym, ◌∙◌, ap, subst, arith, length-drop}
use Rattle.std.proofs.lemmas.List.{length-map, length-take-le, get_or-take, get_or-drop}
use Rattle.std.proofs.lemmas.Option.{get_or_from_slice_get}
use Rattle.sect_front.specs.{TreeView.{TreeView}, TokenAt.{TokenAt}, Front.{IsSpelled}, FaultPlaces.{token_span}}
use Rattle.sect_front.specs.{Grammar.{tokens_of}, declared.span.Span.{Span}, declared.token.Token.{Token}}
use Rattle.sect_types.specs.Items.{items}
use Rattle.sect_places.specs.{declared.range.TokenRange.{TokenRange}, Ranges.{range, item_tokens}}
use Rattle.sect_places.specs.{Spans.{AreInOrder, no_span, span_in}, Openings.{IsOpening}}
use Rattle.sect_places.specs.declared.opening.Opening.{Opening}
use Rattle.sect_lint.specs.{Places.{IsItemSpan, item_number, marked, no_range}, Details.{own_range, own_spans}}
use Rattle.sect_lint.specs.{declared.culprit.Culprit.{Culprit}, declared.layout.Words.{Words}}
use Rattle.sect_lint.specs.declared.mistake.Mistake.{Mistake}
use Rattle.sect_lint.specs.steps.Laid.{AreOwnWords, IsOwnOpening, span_of}
use Rattle.sect_lint.specs.declared.mistake.Mistake.TheVariants as mistake

abbrev window : List Span → TokenRange → List Span
window ss r = take r.count (drop r.first ss)

in_window : (ss : List Span) (r : TokenRange) (k : ℕ) → k < r.count
    → get_or (window ss r) k no_span ≡ get_or ss (r.first + k) no_span
in_window ss r k lt = get_or-take r.count (drop r.first ss) k no_span lt ∙ get_or-drop r.first ss k no_span

abbrev from_to : List Span → ℕ → ℕ → Span
from_to ss a b = record { start = (get_or ss a no_span).start; end = (get_or ss b no_span).end }

-- the same bytes, by the numbers of the tokens in the text and in the item
same_bytes : (ss : List Span) (r : TokenRange) (a b x y : ℕ) → a < r.count → b < r.count → x ≡ r.first + a
    → y ≡ r.first + b → from_to (window ss r) a b ≡ from_to ss x y
same_bytes ss r a b x y la lb ex ey =
    let first : get_or (window ss r) a no_span ≡ get_or ss x no_span =
    in_window ss r a la ∙ ap (λ n. get_or ss n no_span) (sym ex) in
    let last : get_or (window ss r) b no_span ≡ get_or ss y no_span =
    in_window ss r b lb ∙ ap (λ n. get_or ss n no_span) (sym ey) in
    λ j. record { start = (first j).start; end = (last j).end }

marked_bytes : (ss : List Span) (r : TokenRange) (m : Mistake) → 0 < r.count
    → span_in (window ss r) (marked m (range 0 r.count)) ≡ span_in ss (marked m r)
marked_bytes ss r mistake.Twice some =
    same_bytes ss r (0 + r.count - 1) (0 + r.count - 1 + 1 - 1) (r.first + r.count - 1) (r.first + r.count - 1 + 1 - 1)
    (omega (arith, some)) (omega (arith, some)) (omega (arith, some)) (omega (arith, some))
marked_bytes ss r _ some =
    same_bytes ss r 0 (0 + r.count - 1) r.first (r.first + r.count - 1)
    (omega (arith, some)) (omega (arith, some)) (omega (arith, some)) (omega (arith, some))

-- the bytes that are marked in an item whose tokens have these bytes
pub own_span_is : (source : List ℕ) (tree : TreeView) (m : Mistake) (who : Culprit) (s : IsSpelled source tree)
    → item_number tree who < length (items tree) → (spans : List Span)
    → spans ≡ own_spans tree (map token_span s.places) (item_number tree who)
    → length spans ≡ (own_range tree (item_number tree who)).count → 0 < length spans → (span : Span)
    → span ≡ span_in spans (marked m (range 0 (length spans))) → IsItemSpan source tree m who span
own_span_is source tree m who s there spans are many some span e =
    let r : TokenRange = own_range tree (item_number tree who) in
    let all : List Span = map token_span s.places in
    record {
      spelled = s;
      there = there;
      is = e ∙ (λ j. span_in (are j) (marked m (range 0 (many j))))
          ∙ marked_bytes all r m (omega (arith, many, some));
    }

-- the bytes that are marked in an item of these tokens
pub item_span_is : (source : List ℕ) (tree : TreeView) (m : Mistake) (who : Culprit) (words : Words)
    → AreOwnWords source tree (item_number tree who) words → item_number tree who < length (items tree) → (span : Span)
    → span ≡ span_in words.spans.items (marked m (range 0 (length words.spans.items)))
    → IsItemSpan source tree m who span
item_span_is source tree m who words h there span e =
    own_span_is source tree m who h.spelled there words.spans.items (h.spans h.spelled) h.many h.some span e

first_kept : (spans : List Span) → get_or (take 4 spans) 0 no_span ≡ get_or spans 0 no_span
first_kept [] = refl
first_kept (s ∷ spans) = refl

-- the bytes of all tokens of which these are kept
pub opened_span : (tokens : List Token) (spans : List Span) (o : Opening)
    → IsOpening tokens spans o.tokens.items o.spans.items o.values o.last → 0 < length spans
    → span_of o ≡ span_in spans (range 0 (length spans))
opened_span tokens spans o h some =
    let at : length spans - 1 ≡ 0 + length spans - 1 = omega arith in
    let first : get_or o.spans.items 0 no_span ≡ get_or spans 0 no_span =
    ap (λ (ss : List Span). get_or ss 0 no_span) h.places ∙ first_kept spans in
    let last : o.last ≡ get_or spans (0 + length spans - 1) no_span =
    h.end (length spans - 1) (omega (arith, some)) ∙ ap (λ n. get_or spans n no_span) at in
    λ j. record { start = (first j).start; end = (last j).end }

-- some tokens are kept, if there are any
pub some_kept : (tokens : List Token) (spans : List Span) (o : Opening)
    → IsOpening tokens spans o.tokens.items o.spans.items o.values o.last → 0 < length spans
    → 0 < length o.spans.items
some_kept tokens [] o h some = absurd (omega (arith, some))
some_kept tokens (s ∷ spans) o h some = omega (arith, ap length h.places)

-- an item has as many bytes as tokens
own_many : (source : List ℕ) (tree : TreeView) (r : TokenRange) (s : IsSpelled source tree)
    → r.first + r.count ≤ length (tokens_of tree)
    → length (take r.count (drop r.first (map token_span s.places))) ≡ r.count
own_many source tree r s within =
    let all : List Span = map token_span s.places in
    let every : length all ≡ length (tokens_of tree) =
    length-map s.places token_span ∙ sym (length-map s.places (λ (p : TokenAt). p.token))
    ∙ ap length (sym s.parses.tokens) in
    length-take-le r.count (drop r.first all) (omega (arith, length-drop r.first all, every, within))

-- the first tokens of a range are the item's own
pub own_opening : (source : List ℕ) (tree : TreeView) (item : ℕ) (r : TokenRange) (o : Opening)
    → slice_get (item_tokens tree) item ≡ Some r → 0 < r.count → r.first + r.count ≤ length (tokens_of tree)
    → ((by : IsSpelled source tree) → IsOpening (take r.count (drop r.first (tokens_of tree)))
    (take r.count (drop r.first (map token_span by.places))) o.tokens.items o.spans.items o.values o.last)
    → ((by : IsSpelled source tree)
    → AreInOrder 0 (length source) (take r.count (drop r.first (map token_span by.places))))
    → IsOwnOpening source tree item o
own_opening source tree item r o at some within opening order =
    let own : r ≡ own_range tree item = sym (get_or_from_slice_get (item_tokens tree) item r no_range at) in
    record {
      opening = λ by. subst (λ (q : TokenRange). IsOpening (take q.count (drop q.first (tokens_of tree)))
          (take q.count (drop q.first (map token_span by.places))) o.tokens.items o.spans.items o.values o.last) own
          (opening by);
      order = λ by. subst (λ (q : TokenRange). AreInOrder 0 (length source)
          (take q.count (drop q.first (map token_span by.places)))) own (order by);
      many = λ by. subst (λ (q : TokenRange). length (take q.count (drop q.first (map token_span by.places)))
          ≡ q.count) own (own_many source tree r by within);
      some = subst (λ (q : TokenRange). 0 < q.count) own some;
    }

-- the tokens of a range that are read are the item's own
pub own_words : (source : List ℕ) (tree : TreeView) (item : ℕ) (r : TokenRange) (words : Words)
    → IsSpelled source tree → slice_get (item_tokens tree) item ≡ Some r → 0 < r.count
    → r.first + r.count ≤ length (tokens_of tree)
    → words.tokens.items ≡ take r.count (drop r.first (tokens_of tree))
    → ((by : IsSpelled source tree) → words.spans.items ≡ take r.count (drop r.first (map token_span by.places)))
    → AreInOrder 0 (length source) words.spans.items → AreOwnWords source tree item words
own_words source tree item r words s at some within tokens spans order =
    let own : r ≡ own_range tree item = sym (get_or_from_slice_get (item_tokens tree) item r no_range at) in
    let count : length words.spans.items ≡ r.count = ap length (spans s) ∙ own_many source tree r s within in
    record {
      spelled = s;
      tokens = tokens ∙ ap (λ (q : TokenRange). take q.count (drop q.first (tokens_of tree))) own;
      spans = λ by. spans by ∙ ap (λ (q : TokenRange). take q.count (drop q.first (map token_span by.places))) own;
      order = order;
      within = subst (λ (q : TokenRange). q.first + q.count ≤ length (tokens_of tree)) own within;
      many = count ∙ ap (λ (q : TokenRange). q.count) own;
      some = omega (arith, count, some);
    }
