-- How the wanted names of a tree are read off a text.
use Rattle.std.proofs.Common.{◌≡◌, ℕ, zero, suc, ◌+◌, ◌<◌, ◌≤◌, Bool, true, false, List, [], ◌∷◌, ◌++◌, length, take}
use Rattle.std.proofs.Common.{drop, map, Some, slice_get, refl, sym, ◌∙◌, ap, subst, arith, append-nil, if◌then◌else◌}
use Rattle.std.proofs.Common.{length-append}
use Rattle.std.proofs.{lemmas.Option.{slice_get_within, get_or_from_slice_get}, lemmas.List.Elements.{filter-append}}
use Rattle.std.proofs.lemmas.List.{nil_from_length, length-map, take-append-drop, drop_more, length-take-le}
use Rattle.std.specs.Prelude.{filter}
use Rattle.sect_lemmas.proofs.{Places.{at_of}, Options.{some_injective}}
use Rattle.sect_front.specs.{TreeView.{TreeView}, TokenAt.{TokenAt}, Front.{IsSpelled}, FaultPlaces.{token_span}}
use Rattle.sect_front.specs.{Gaps.{after_gap}, Grammar.{tokens_of}, declared.span.Span.{Span}}
use Rattle.sect_front.specs.{declared.token.Token.{Token}, NameTokens.{is_name_token}}
use Rattle.sect_places.specs.{declared.name_use.NameUse.{NameUse}, declared.name_use.NameSpan.{NameSpan}}
use Rattle.sect_places.specs.{NameUses.{name_uses}, NameSpans.{AreNameSpans}, declared.wish.Wish.{Wish}}
use Rattle.sect_places.specs.Mattering.{wanted}
use Rattle.sect_places.specs.steps.Wanting.{KeptView, behind, nothing_kept, is_taken, numbers_from}
use Rattle.sect_places.specs.steps.Wanted.{AreWanted}
use Rattle.sect_places.proofs.Keeping.{kept_of, numbers_behind, no_earlier, kept_all, as_many_numbers}
use Rattle.sect_places.proofs.NamesRead.{NamedHere, named_none, named_more, named_on, names_left, token_left}
use Rattle.sect_places.proofs.{NameTokens.{as_many_names}, Standing.{OneRead, places_count}}
use Rattle.sect_places.proofs.shared.Fitting.{tokens_fit}
use Rattle.sect_places.specs.declared.wish.Wish.TheVariants as wish

-- so many names have been read, these are wanted of them, and here the next token stands
pub record WantedHere (bytes : List ℕ) (tree : TreeView) (which : Wish) (some : List NameSpan) (number : ℕ)
    (here : List ℕ) : Type 0
  where
    pub names : List NameSpan
    pub named : NamedHere bytes tree names here
    pub count : number ≡ length names
    pub are : some ≡ wanted which names

pub wanted_none : (bytes : List ℕ) (tree : TreeView) (which : Wish) → IsSpelled bytes tree
    → WantedHere bytes tree which [] 0 (after_gap bytes)
wanted_none bytes tree which s = record { names = []; named = named_none bytes tree s; count = refl; are = refl }

-- what names do that are wanted is what is kept of what all do
wanted_used : (which : Wish) (names : List NameSpan)
    → map (λ (n : NameSpan). n.used) (wanted which names) ≡ kept_of which (map (λ (n : NameSpan). n.used) names)
wanted_used which [] = refl
wanted_used which (n ∷ names) = step (is_taken which n.used) (wanted which names) _ (wanted_used which names)
  where
    step : (b : Bool) (ns : List NameSpan) (us : List NameUse) → map (λ (n : NameSpan). n.used) ns ≡ us
        → map (λ (n : NameSpan). n.used) (if b then n ∷ ns else ns) ≡ (if b then n.used ∷ us else us)
    step true ns us e = ap (λ vs. n.used ∷ vs) e
    step false ns us e = e

-- no more are kept than there are
pub shorter : {A : Type 0} (p : A → Bool) (xs : List A) → length (filter p xs) ≤ length xs
shorter p [] = omega arith
shorter p (x ∷ xs) = by (p x) (shorter p xs)
  where
    by : (b : Bool) → length (filter p xs) ≤ length xs
        → length (if b then x ∷ filter p xs else filter p xs) ≤ length (x ∷ xs)
    by true h = omega (arith, h)
    by false h = omega (arith, h)

-- what stands behind others
behind_others : {A : Type 0} (xs ys : List A) → slice_get (xs ++ ys) (length xs) ≡ slice_get ys 0
behind_others [] ys = refl
behind_others (x ∷ xs) ys = behind_others xs ys

module _ (bytes : List ℕ) (tree : TreeView) (which : Wish) (some : List NameSpan) (number : ℕ) (here : List ℕ)
    (h : WantedHere bytes tree which some number here) (kept : KeptView)
    (all : kept ≡ behind (nothing_kept which) (name_uses tree)) where
  abbrev uses : List NameUse
  uses = name_uses tree

  abbrev parts : (kept.passed ≡ length uses) × (kept.numbers ≡ numbers_from which 0 uses)
      × (kept.uses ≡ kept_of which uses)
  parts = kept_all which uses kept all

  pub numbered : length kept.numbers ≡ length kept.uses
  numbered = ap length parts.1 ∙ (as_many_numbers which 0 uses ∙ ap length (sym parts.2))

  -- what all names do so far, and what those do that are to come
  abbrev front : List NameUse
  front = take (length h.names) uses

  abbrev rest : List NameUse
  rest = drop (length h.names) uses

  as_many : length some ≡ length (kept_of which front)
  as_many = ap length h.are ∙ (sym (length-map (wanted which h.names) (λ (n : NameSpan). n.used))
      ∙ ap length (wanted_used which h.names ∙ ap (kept_of which) h.named.used))

  -- so many are wanted of those that are to come
  to_come : length some + length (kept_of which rest) ≡ length kept.uses
  to_come = omega (
    arith,
    as_many,
    ap length (parts.2 ∙ ap (kept_of which) (sym (take-append-drop (length h.names) uses))
        ∙ filter-append (is_taken which) front rest),
    length-append (kept_of which front) (kept_of which rest),
  )

  pub fewer : length some < length kept.uses → length h.names < length uses
  fewer lt = some_left uses (length h.names) (omega (arith, lt, to_come))
    where
      some_left : (us : List NameUse) (n : ℕ) → 0 < length (kept_of which (drop n us)) → n < length us
      some_left [] zero h = absurd (omega (arith, h))
      some_left [] (suc n) h = absurd (omega (arith, h))
      some_left (u ∷ us) zero h = omega arith
      some_left (u ∷ us) (suc n) h = omega (arith, some_left us n h)

  pub left_to_read : length some < length kept.uses → h.named.number < length (tokens_of tree)
  left_to_read lt = token_left bytes tree h.names here h.named (fewer lt)

  -- the number is one of a name
  pub number_fits : length some < length kept.uses → number < 1048576
  number_fits lt =
      let s : IsSpelled bytes tree = h.named.stands.spelled in
      omega (
        arith,
        fewer lt,
        h.count,
        as_many_names bytes tree s,
        shorter (λ (p : TokenAt). is_name_token p.token) s.places,
        places_count bytes tree s,
        tokens_fit bytes tree s,
      )

  -- once there are as many as are kept these are all that are wanted
  pub wanted_all : length kept.uses ≤ length some → AreWanted bytes tree which some
  wanted_all end =
      let left = names_left bytes tree h.names here h.named in
      let more : List NameSpan = left.0 in
      let none : length (wanted which more) ≡ 0 = omega (
        arith,
        end,
        to_come,
        length-map (wanted which more) (λ (n : NameSpan). n.used),
        ap length (wanted_used which more ∙ ap (kept_of which) left.2),
      ) in (
        h.names ++ more,
        left.1,
        h.are ∙ (sym (append-nil (wanted which h.names))
            ∙ (ap (λ ns. wanted which h.names ++ ns) (sym (nil_from_length (wanted which more) none))
            ∙ sym (filter-append (λ (n : NameSpan). is_taken which n.used) h.names more))),
      )

  -- a token that is no name
  pub wanted_on : (t : Token) (n : ℕ) (r : OneRead bytes tree h.named.number here h.named.stands t n) (s : Span)
      → s ≡ token_span r.first.p → is_name_token t ≡ false
      → WantedHere bytes tree which some number (after_gap (drop n here))
  wanted_on t n r s place is = record {
    names = h.names;
    named = named_on bytes tree h.names h.names here h.named t n r s place is refl;
    count = h.count;
    are = h.are;
  }

  -- a name
  module _ (lt : length some < length kept.uses) (new : List NameSpan) (s : Span)
      (yes : slice_get kept.numbers (length some) ≡ Some number → (u : NameUse)
      → slice_get kept.uses (length some) ≡ Some u → new ≡ some ++ record { used = u; span = s } ∷ [])
      (no : (slice_get kept.numbers (length some) ≡ Some number → ⊥) → new ≡ some) where
    abbrev next : (u : NameUse) × (slice_get uses (length h.names) ≡ Some u)
    next = at_of uses (length h.names) (fewer lt)

    abbrev later : List NameUse
    later = drop (length h.names + 1) uses

    split : front ++ next.0 ∷ later ≡ uses
    split = ap (λ us. front ++ us) (sym (left uses (length h.names) next.0 next.1))
        ∙ take-append-drop (length h.names) uses
      where
        left : {A : Type 0} (xs : List A) (i : ℕ) (x : A) → slice_get xs i ≡ Some x → drop i xs ≡ x ∷ drop (i + 1) xs
        left xs i x at = drop_more xs i x (slice_get_within xs i x at)
            ∙ ap (λ y. y ∷ drop (i + 1) xs) (get_or_from_slice_get xs i x x at)

    number_there : slice_get kept.numbers (length some) ≡ slice_get (numbers_from which number (next.0 ∷ later)) 0
    number_there =
        let fits : length front ≡ number =
        length-take-le (length h.names) uses (omega (arith, fewer lt)) ∙ sym h.count in
        ap (λ ns. slice_get ns (length some)) (parts.1 ∙ ap (numbers_from which 0) (sym split))
        ∙ (ap (slice_get (numbers_from which 0 (front ++ next.0 ∷ later))) as_many
        ∙ (numbers_behind which 0 front (next.0 ∷ later)
        ∙ ap (λ k. slice_get (numbers_from which k (next.0 ∷ later)) 0) (omega (arith, fits))))

    use_there : is_taken which next.0 ≡ true → slice_get kept.uses (length some) ≡ Some next.0
    use_there is =
        ap (λ us. slice_get us (length some)) (parts.2 ∙ (ap (kept_of which) (sym split)
        ∙ filter-append (is_taken which) front (next.0 ∷ later)))
        ∙ (ap (slice_get (kept_of which front ++ kept_of which (next.0 ∷ later))) as_many
        ∙ (behind_others (kept_of which front) (kept_of which (next.0 ∷ later))
        ∙ ap (λ (b : Bool). slice_get (if b then next.0 ∷ kept_of which later else kept_of which later) 0) is))

    is_new : new ≡ wanted which (h.names ++ record { used = next.0; span = s } ∷ [])
    is_new = by (is_taken which next.0) refl
      where
        x : NameSpan
        x = record { used = next.0; span = s }

        joined : (b : Bool) → is_taken which next.0 ≡ b
            → some ++ (if b then x ∷ [] else []) ≡ wanted which (h.names ++ x ∷ [])
        joined b e = ap (λ ns. ns ++ (if b then x ∷ [] else [])) h.are
            ∙ (ap (λ (c : Bool). wanted which h.names ++ (if c then x ∷ [] else [])) (sym e)
            ∙ sym (filter-append (λ (n : NameSpan). is_taken which n.used) h.names (x ∷ [])))

        by : (b : Bool) → is_taken which next.0 ≡ b → new ≡ wanted which (h.names ++ x ∷ [])
        by true e = yes (number_there
            ∙ ap (λ (b : Bool). slice_get (if b then number ∷ numbers_from which (number + 1) later
            else numbers_from which (number + 1) later) 0) e) next.0 (use_there e) ∙ joined true e
        by false e = no (λ at. (let early = no_earlier which (number + 1) number later
            (sym (ap (λ (b : Bool). slice_get (if b then number ∷ numbers_from which (number + 1) later
            else numbers_from which (number + 1) later) 0) e) ∙ (sym number_there ∙ at))
            in absurd (omega (arith, early))))
            ∙ (sym (append-nil some) ∙ joined false e)

    pub wanted_more : (t : Token) (n : ℕ) (r : OneRead bytes tree h.named.number here h.named.stands t n)
        → s ≡ token_span r.first.p → is_name_token t ≡ true
        → WantedHere bytes tree which new (number + 1) (after_gap (drop n here))
    wanted_more t n r place is =
        let x : NameSpan = record { used = next.0; span = s } in
        record {
          names = h.names ++ x ∷ [];
          named = named_more bytes tree h.names (h.names ++ x ∷ []) here h.named t n r s place is
              (λ u at. (let same : next.0 ≡ u = some_injective next.0 u (sym next.1 ∙ at) in
              ap (λ (v : NameUse). h.names ++ record { used = v; span = s } ∷ []) same)) (fewer lt);
          count = omega (arith, h.count, length-append h.names (x ∷ []));
          are = is_new;
        }

-- where any is wanted these are all
pub all_names : (bytes : List ℕ) (tree : TreeView) (names : List NameSpan) → AreWanted bytes tree wish.All names
    → AreNameSpans bytes tree names
all_names bytes tree names w = subst (AreNameSpans bytes tree) (sym (w.2 ∙ every w.0)) w.1
  where
    every : (ns : List NameSpan) → wanted wish.All ns ≡ ns
    every [] = refl
    every (n ∷ ns) = ap (λ ms. n ∷ ms) (every ns)
