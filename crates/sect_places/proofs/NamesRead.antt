-- How the names of a tree are read off a text.
use Rattle.std.proofs.Common.{◌≡◌, ℕ, zero, suc, ◌+◌, ◌<◌, Bool, true, false, List, [], ◌∷◌, ◌++◌, length, take, drop}
use Rattle.std.proofs.Common.{map, Some, slice_get, refl, sym, ◌∙◌, ap, subst, arith, append_assoc, length-append}
use Rattle.std.proofs.Common.{length-drop, if◌then◌else◌}
use Rattle.std.proofs.lemmas.List.{map_push, length-map, map-append, take-append-drop}
use Rattle.sect_front.specs.{TreeView.{TreeView}, TokenAt.{TokenAt}, Front.{IsSpelled}, FaultPlaces.{token_span}}
use Rattle.sect_front.specs.{Gaps.{after_gap}, Grammar.{tokens_of}, declared.span.Span.{Span}}
use Rattle.sect_front.specs.{declared.token.Token.{Token}, NameTokens.{is_name_token}}
use Rattle.sect_lemmas.proofs.Places.{at_of}
use Rattle.sect_places.specs.{declared.name_use.NameUse.{NameUse}, declared.name_use.NameSpan.{NameSpan}}
use Rattle.sect_places.specs.{NameUses.{name_uses}, NameSpans.{names_among, AreNameSpans}}
use Rattle.sect_places.specs.steps.Standing.{StandsFrom}
use Rattle.sect_places.proofs.NameTokens.{as_many_names, are_name_spans}
use Rattle.sect_places.proofs.Standing.{OneRead, stands_none, places_count, same_places}
use Rattle.sect_places.proofs.shared.Naming.{joined, joined_used, joined_spans}

-- these names have been read, and here the next token stands
pub record NamedHere (bytes : List ℕ) (tree : TreeView) (names : List NameSpan) (here : List ℕ) : Type 0 where
  pub number : ℕ
  pub stands : StandsFrom bytes tree number here
  pub used : map (λ (n : NameSpan). n.used) names ≡ take (length names) (name_uses tree)
  pub spans : map (λ (n : NameSpan). n.span) names
      ++ map token_span (names_among (drop number stands.spelled.places))
      ≡ map token_span (names_among stands.spelled.places)

pub named_none : (bytes : List ℕ) (tree : TreeView) → IsSpelled bytes tree
    → NamedHere bytes tree [] (after_gap bytes)
named_none bytes tree s = record { number = 0; stands = stands_none bytes tree s; used = refl; spans = refl }

more_left : (ps : List TokenAt) (n : ℕ) → 0 < length (names_among (drop n ps)) → n < length ps
more_left [] zero h = absurd (omega (arith, h))
more_left [] (suc n) h = absurd (omega (arith, h))
more_left (p ∷ ps) zero h = omega arith
more_left (p ∷ ps) (suc n) h = omega (arith, more_left ps n h)

module _ (bytes : List ℕ) (tree : TreeView) (names : List NameSpan) (here : List ℕ)
    (h : NamedHere bytes tree names here) where
  abbrev places : List TokenAt
  places = h.stands.spelled.places

  -- as many names are there and to come as the tree has
  counted : length names + length (names_among (drop h.number places)) ≡ length (name_uses tree)
  counted = omega (
    arith,
    ap length h.spans,
    length-append (map (λ (n : NameSpan). n.span) names) (map token_span (names_among (drop h.number places))),
    length-map names (λ (n : NameSpan). n.span),
    length-map (names_among (drop h.number places)) token_span,
    length-map (names_among places) token_span,
    as_many_names bytes tree h.stands.spelled,
  )

  -- while a name is to come, a token is
  pub token_left : length names < length (name_uses tree) → h.number < length (tokens_of tree)
  token_left lt =
      omega (arith, places_count bytes tree h.stands.spelled, more_left places h.number (omega (arith, counted, lt)))

  -- with those that are to come these are all
  pub names_left : (more : List NameSpan) × AreNameSpans bytes tree (names ++ more)
      × (map (λ (n : NameSpan). n.used) more ≡ drop (length names) (name_uses tree))
  names_left =
      let us : List NameUse = drop (length names) (name_uses tree) in
      let ss : List Span = map token_span (names_among (drop h.number places)) in
      let count : length us ≡ length ss = omega (
        arith,
        counted,
        length-drop (length names) (name_uses tree),
        length-map (names_among (drop h.number places)) token_span,
      ) in
      let more : List NameSpan = joined us ss in (
        more,
        are_name_spans bytes tree h.stands.spelled (names ++ more)
            (map-append (λ (n : NameSpan). n.used) names more ∙ (λ j. h.used j ++ joined_used us ss count j)
            ∙ take-append-drop (length names) (name_uses tree))
            (map-append (λ (n : NameSpan). n.span) names more
            ∙ ap (λ zs. map (λ (n : NameSpan). n.span) names ++ zs) (joined_spans us ss count) ∙ h.spans),
        joined_used us ss count,
      )

next_used : (us : List NameUse) (n : ℕ) (u : NameUse) → slice_get us n ≡ Some u
    → take (suc n) us ≡ take n us ++ u ∷ []
next_used [] n u e = absurd cc
next_used (x ∷ us) zero u e = let same : x ≡ u = cc in ap (λ y. y ∷ []) same
next_used (x ∷ us) (suc n) u e = ap (λ ys. x ∷ ys) (next_used us n u e)

-- one more token, which is a name or isn't
module _ (bytes : List ℕ) (tree : TreeView) (names new : List NameSpan) (here : List ℕ)
    (h : NamedHere bytes tree names here) (t : Token) (n : ℕ) (r : OneRead bytes tree h.number here h.stands t n)
    (s : Span) (span_is : s ≡ token_span r.first.p) where
  abbrev before : List TokenAt
  before = h.stands.spelled.places

  abbrev later : List TokenAt
  later = drop (h.number + 1) before

  among : (b : Bool) → is_name_token t ≡ b → names_among (drop h.number before)
      ≡ (if b then r.first.p ∷ names_among later else names_among later)
  among b e = ap names_among r.first.left
      ∙ ap (λ (c : Bool). if c then r.first.p ∷ names_among later else names_among later)
      (ap is_name_token (sym r.token) ∙ e)

  abbrev AreSpans : List TokenAt → List Span → Type 0
  AreSpans ps ss = ss ++ map token_span (names_among (drop (h.number + 1) ps)) ≡ map token_span (names_among ps)

  with_places : (ss : List Span) → AreSpans before ss → AreSpans r.more.spelled.places ss
  with_places ss e =
      subst (λ ps. AreSpans ps ss) (same_places bytes tree h.stands.spelled r.more.spelled) e

  pub named_more : is_name_token t ≡ true
      → ((u : NameUse) → slice_get (name_uses tree) (length names) ≡ Some u
      → new ≡ names ++ record { used = u; span = s } ∷ []) → length names < length (name_uses tree)
      → NamedHere bytes tree new (after_gap (drop n here))
  named_more is each lt =
      let next = at_of (name_uses tree) (length names) lt in
      let u : NameUse = next.0 in
      let x : NameSpan = record { used = u; span = s } in
      let e : new ≡ names ++ x ∷ [] = each u next.1 in
      let many : length new ≡ suc (length names) = omega (arith, ap length e, length-append names (x ∷ [])) in
      record {
        number = h.number + 1;
        stands = r.more;
        used = ap (map (λ (y : NameSpan). y.used)) e ∙ map_push (λ (y : NameSpan). y.used) names x
            ∙ ap (λ us. us ++ u ∷ []) h.used ∙ sym (next_used (name_uses tree) (length names) u next.1)
            ∙ ap (λ k. take k (name_uses tree)) (sym many);
        spans = with_places (map (λ (y : NameSpan). y.span) new)
            (ap (λ ns. map (λ (y : NameSpan). y.span) ns ++ map token_span (names_among later)) e
            ∙ ap (λ ss. ss ++ map token_span (names_among later)) (map_push (λ (y : NameSpan). y.span) names x)
            ∙ append_assoc (map (λ (y : NameSpan). y.span) names) (s ∷ []) (map token_span (names_among later))
            ∙ ap (λ z. map (λ (y : NameSpan). y.span) names ++ z ∷ map token_span (names_among later)) span_is
            ∙ ap (λ ps. map (λ (y : NameSpan). y.span) names ++ map token_span ps) (sym (among true is))
            ∙ h.spans);
      }

  pub named_on : is_name_token t ≡ false → new ≡ names → NamedHere bytes tree new (after_gap (drop n here))
  named_on is e = subst (λ ns. NamedHere bytes tree ns (after_gap (drop n here))) (sym e) (record {
    number = h.number + 1;
    stands = r.more;
    used = h.used;
    spans = with_places (map (λ (y : NameSpan). y.span) names)
        (ap (λ ps. map (λ (y : NameSpan). y.span) names ++ map token_span ps) (sym (among false is)) ∙ h.spans);
  })
