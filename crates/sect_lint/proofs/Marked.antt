-- The bytes of names that are told lie in the text.
use Rattle.std.proofs.Common.{◌≡◌, ℕ, List, Option, Some, None, map, slice_get, refl, sym, subst, arith, ap, ◌∙◌}
use Rattle.std.proofs.{lemmas.List.{length-map}, lemmas.Option.{get_or_from_slice_get, slice_get-map}}
use Rattle.std.specs.Prelude.{All, MatchOption, option_map}
use Rattle.sect_lemmas.proofs.{Places.{Has-index, at_of}, Options.{none_or_some}}
use Rattle.sect_front.specs.{TreeView.{TreeView}, FaultPlaces.{IsWithin}, declared.span.Span.{Span}}
use Rattle.sect_front.specs.declared.token.Token.{Token}
use Rattle.sect_types.specs.declared.rules.rule.TypeFault.{TypeFault}
use Rattle.sect_places.specs.{declared.name_use.NameSpan.{NameSpan}, Spans.{AreInOrder, AreProper}}
use Rattle.sect_places.proofs.shared.Names.{name_proper}
use Rattle.sect_lint.specs.{declared.culprit.Culprit.{Culprit}, declared.mistake.Mistake.{Mistake}}
use Rattle.sect_lint.specs.Naming.{found, unknown_at, declared_at, earlier_at, earlier_of, earlier_detail}
use Rattle.sect_lint.specs.{Calls.{Leads, IsCircleTold}, declared.diagnostic.Detail.{Detail}}
use Rattle.sect_lint.specs.{Details.{IsDetailWithin, IsToldOf, item_detail}, Places.{IsItemSpan, IsMarked, marked_name}}
use Rattle.sect_lint.proofs.{Circling.{leads_has}, Parts.{mistyped_within, counts_within}}
use Rattle.sect_types.specs.declared.rules.rule.TypeFault.TheVariants as types
use Rattle.sect_lint.specs.declared.diagnostic.Detail.TheVariants as detail

-- the bytes of a name lie in the text
name_within : (total : ℕ) (names : List NameSpan) (k : ℕ) (n : NameSpan)
    → AreProper total (map (λ (x : NameSpan). x.span) names) → slice_get names k ≡ Some n → IsWithin total n.span
name_within total names k n h e =
    let p = name_proper total names k n h e in
    (omega (arith, p.0), p.1)

module _ (total : ℕ) (names : List NameSpan) (proper : AreProper total (map (λ (x : NameSpan). x.span) names)) where
  by_found : (item span : Span) (o : Option ℕ) (r : Option NameSpan) → found names o ≡ r → IsWithin total item
      → MatchOption r (span ≡ item) (λ n. span ≡ n.span) → IsWithin total span
  by_found item span None r e within h = by_none r e h
    where
      by_none : (r : Option NameSpan) → None ≡ r → MatchOption r (span ≡ item) (λ n. span ≡ n.span)
          → IsWithin total span
      by_none None e h = subst (IsWithin total) (sym h) within
      by_none (Some n) e h = absurd (none_or_some n e)
  by_found item span (Some k) None e within h = subst (IsWithin total) (sym h) within
  by_found item span (Some k) (Some n) e within h =
      subst (IsWithin total) (sym h) (name_within total names k n proper e)

  pub marked_within : (fault : TypeFault) (item span : Span) → IsWithin total item
      → MatchOption (marked_name names fault) (span ≡ item) (λ n. span ≡ n.span) → IsWithin total span
  marked_within types.Memory item span within h = subst (IsWithin total) (sym h) within
  marked_within (types.Unknown i) item span within h =
      by_found item span (unknown_at names i) (found names (unknown_at names i)) refl within h
  marked_within (types.Twice i) item span within h = subst (IsWithin total) (sym h) within
  marked_within (types.WrongType i) item span within h = subst (IsWithin total) (sym h) within
  marked_within (types.SharedOutside i) item span within h = subst (IsWithin total) (sym h) within
  marked_within (types.Nested i) item span within h = subst (IsWithin total) (sym h) within
  marked_within (types.TooMany i) item span within h = subst (IsWithin total) (sym h) within
  marked_within (types.Recursion i) item span within h = subst (IsWithin total) (sym h) within
  marked_within (types.Arguments i) item span within h = subst (IsWithin total) (sym h) within

  earlier_within : (o : Option ℕ) (r : Option NameSpan) → found names o ≡ r → IsDetailWithin total (earlier_detail r)
  earlier_within o None e = tt
  earlier_within None (Some n) e = absurd (none_or_some n e)
  earlier_within (Some k) (Some n) e = name_within total names k n proper e

  first_within : (r : Option NameSpan) → IsDetailWithin total (earlier_detail (earlier_of names r))
  first_within None = tt
  first_within (Some d) = earlier_within (earlier_at names d) (found names (earlier_at names d)) refl

  pub detail_within : (tree : TreeView) (ts : List Token) (ss : List Span) → AreInOrder 0 total ss
      → (fault : TypeFault) → IsDetailWithin total (item_detail tree names ts ss fault)
  detail_within tree ts ss order types.Memory = tt
  detail_within tree ts ss order (types.Unknown i) = tt
  detail_within tree ts ss order (types.Twice i) = first_within (found names (declared_at names i))
  detail_within tree ts ss order (types.WrongType i) = mistyped_within total names proper i ss order tree.procedures ts
  detail_within tree ts ss order (types.SharedOutside i) = tt
  detail_within tree ts ss order (types.Nested i) = tt
  detail_within tree ts ss order (types.TooMany i) = tt
  detail_within tree ts ss order (types.Recursion i) = tt
  detail_within tree ts ss order (types.Arguments i) = counts_within total 0 tree.procedures ts ss order

  -- the calls of a circle stand in the text
  spans_within : (from to : NameSpan) (calls : List NameSpan) (spans : List Span) → Leads names from to calls
      → spans ≡ map (λ (n : NameSpan). n.span) calls → All (IsWithin total) spans
  spans_within from to calls spans h e =
      subst (All (IsWithin total)) (sym e) (λ k d lt.
      let here = at_of calls k (omega (arith, lt, length-map calls (λ (n : NameSpan). n.span))) in
      let there = Has-index names here.0 (leads_has names from to calls h k here.0 here.1) in
      subst (IsWithin total) (sym (get_or_from_slice_get (map (λ (n : NameSpan). n.span) calls) k here.0.span d
      (slice_get-map (λ (n : NameSpan). n.span) calls k ∙ ap (option_map (λ (n : NameSpan). n.span)) here.1)))
      (name_within total names there.0 here.0 proper there.1))

  circle_within : (item : ℕ) (told : Detail) → IsCircleTold names item told → IsDetailWithin total told
  circle_within item (detail.Circle spans) h =
      spans_within h.1.procedure h.1.procedure h.0 spans.items h.1.leads h.2
  circle_within item detail.Nothing h = tt
  circle_within item (detail.Bytes n) h = subst (IsDetailWithin total) (sym h) tt
  circle_within item (detail.OpenBrace at) h = subst (IsDetailWithin total) (sym h) tt
  circle_within item (detail.Earlier s) h = subst (IsDetailWithin total) (sym h) tt
  circle_within item (detail.Type t) h = subst (IsDetailWithin total) (sym h) tt
  circle_within item (detail.Types a b) h = subst (IsDetailWithin total) (sym h) tt
  circle_within item (detail.Limit l) h = subst (IsDetailWithin total) (sym h) tt
  circle_within item (detail.Counts c) h = subst (IsDetailWithin total) (sym h) tt
  circle_within item (detail.Expected kinds) h = subst (IsDetailWithin total) (sym h) tt

  -- what is told lies in the text, where what is told of another mistake does
  pub told_within : (fault : TypeFault) (other told : Detail) → IsDetailWithin total other
      → IsToldOf names fault other told → IsDetailWithin total told
  told_within types.Memory other told h e = subst (IsDetailWithin total) (sym e) h
  told_within (types.Unknown i) other told h e = subst (IsDetailWithin total) (sym e) h
  told_within (types.Twice i) other told h e = subst (IsDetailWithin total) (sym e) h
  told_within (types.WrongType i) other told h e = subst (IsDetailWithin total) (sym e) h
  told_within (types.SharedOutside i) other told h e = subst (IsDetailWithin total) (sym e) h
  told_within (types.Nested i) other told h e = subst (IsDetailWithin total) (sym e) h
  told_within (types.TooMany i) other told h e = subst (IsDetailWithin total) (sym e) h
  told_within (types.Recursion i) other told h e = circle_within i told e
  told_within (types.Arguments i) other told h e = subst (IsDetailWithin total) (sym e) h

pub is_marked : (source : List ℕ) (tree : TreeView) (m : Mistake) (who : Culprit) (o : Option NameSpan)
    (item span : Span) → IsItemSpan source tree m who item
    → MatchOption o (span ≡ item) (λ n. span ≡ n.span) → IsMarked source tree m who o span
is_marked source tree m who None item span h e = subst (IsItemSpan source tree m who) (sym e) h
is_marked source tree m who (Some n) item span h e = e
