-- How a text is read token by token, where it spells a tree.
use Rattle.std.proofs.Common.{◌≡◌, ℕ, zero, suc, ◌+◌, ◌-◌, ◌<◌, ◌≤◌, List, [], ◌∷◌, ◌++◌, length, take, drop, map}
use Rattle.std.proofs.Common.{get_or, Option, Some, None, refl, sym, ◌∙◌, ap, subst, arith}
use Rattle.std.proofs.lemmas.List.{drop_more, drop-drop, take-map, drop-map, map_push}
use Rattle.sect_lemmas.proofs.{Options.{none_or_some, some_injective}, Places.{at_of}}
use Rattle.sect_front.specs.{TreeView.{TreeView}, TokenAt.{TokenAt}, Gaps.{after_gap}, Front.{IsSpelled}}
use Rattle.sect_front.specs.{FaultPlaces.{token_span}, Grammar.{tokens_of}, Lexing.{IsFirst, Reaches}}
use Rattle.sect_front.specs.{Spelling.{spelling_of, IsSpelling}, declared.span.Span.{Span}}
use Rattle.sect_front.specs.declared.token.Token.{Token}
use Rattle.sect_front.proofs.shared.{Lexings.{one_lexing}, Rests.{rest_all, rest_more, rest_gap}}
use Rattle.sect_places.specs.Spans.{AreInOrder}
use Rattle.sect_places.specs.steps.Standing.{StandsFrom, IsSought}
use Rattle.sect_places.proofs.{Placing.{first_length, span_from}, Whole.{tokens_length, spans_order}}
use Rattle.sect_places.proofs.shared.Ordered.{order_within}

-- as many tokens are spelled as the tree has
pub places_count : (bytes : List ℕ) (tree : TreeView) (s : IsSpelled bytes tree)
    → length s.places ≡ length (tokens_of tree)
places_count bytes tree s = sym (tokens_length s.places) ∙ ap length (sym s.parses.tokens)

pub stands_none : (bytes : List ℕ) (tree : TreeView) → IsSpelled bytes tree
    → StandsFrom bytes tree 0 (after_gap bytes)
stands_none bytes tree s = record {
  spelled = s;
  before = bytes;
  last = s.spells.0;
  reaches = s.spells.1;
  gap = refl;
  rest = rest_gap bytes bytes (rest_all bytes);
}

-- a token that stands here, with its place
pub record FirstHere (places : List TokenAt) (total number : ℕ) (here : List ℕ) : Type 0 where
  pub p : TokenAt
  pub left : drop number places ≡ p ∷ drop (number + 1) places
  pub place : p.at + length here ≡ total
  pub first : IsFirst p.token (length (spelling_of p.token)) here

abbrev first_of : (bytes : List ℕ) (tree : TreeView) (number : ℕ) (here : List ℕ)
    → StandsFrom bytes tree number here → Type 0
first_of bytes tree number here h = FirstHere h.spelled.places (length bytes) number here

pub first_here : (bytes : List ℕ) (tree : TreeView) (number : ℕ) (here : List ℕ)
    → (h : StandsFrom bytes tree number here) → number < length h.spelled.places
    → first_of bytes tree number here h
first_here bytes tree number here h lt =
    let places : List TokenAt = h.spelled.places in
    let some = at_of places number lt in
    let p : TokenAt = get_or places number some.0 in
    let left : drop number places ≡ p ∷ drop (number + 1) places = drop_more places number some.0 lt in
    let reach : Reaches (length bytes) h.before (p ∷ drop (number + 1) places) h.last =
    subst (λ ps. Reaches (length bytes) h.before ps h.last) left h.reaches in
    let n : reach.0 ≡ length (spelling_of p.token) = first_length p.token reach.0 (after_gap h.before) reach.2 in
    record {
      p = p;
      left = left;
      place = ap (λ x. p.at + length x) (sym h.gap) ∙ reach.1;
      first = subst (λ k. IsFirst p.token k here) n
          (subst (λ x. IsFirst p.token reach.0 x) h.gap reach.2);
    }

-- what stands behind it
pub stands_more : (bytes : List ℕ) (tree : TreeView) (number : ℕ) (here : List ℕ)
    → (h : StandsFrom bytes tree number here) → (f : first_of bytes tree number here h) → (count : ℕ)
    → count ≡ length (spelling_of f.p.token) → StandsFrom bytes tree (number + 1) (after_gap (drop count here))
stands_more bytes tree number here h f count e =
    let places : List TokenAt = h.spelled.places in
    let reach : Reaches (length bytes) h.before (f.p ∷ drop (number + 1) places) h.last =
    subst (λ ps. Reaches (length bytes) h.before ps h.last) f.left h.reaches in
    let n : reach.0 ≡ count = first_length f.p.token reach.0 (after_gap h.before) reach.2 ∙ sym e in
    record {
      spelled = h.spelled;
      before = drop count here;
      last = h.last;
      reaches = subst (λ k. Reaches (length bytes) (drop k here) (drop (number + 1) places) h.last) n
          (subst (λ x. Reaches (length bytes) (drop reach.0 x) (drop (number + 1) places) h.last) h.gap reach.3);
      gap = refl;
      rest = rest_gap bytes (drop count here) (rest_more bytes here count h.rest);
    }

-- a token is read where it stands
pub record OneRead (bytes : List ℕ) (tree : TreeView) (number : ℕ) (here : List ℕ)
    (h : StandsFrom bytes tree number here) (t : Token) (n : ℕ) : Type 0 where
  pub first : first_of bytes tree number here h
  pub token : t ≡ first.p.token
  pub count : n ≡ length (spelling_of first.p.token)
  pub within : n ≤ length here
  pub some : 0 < n
  pub more : StandsFrom bytes tree (number + 1) (after_gap (drop n here))

module _ (bytes : List ℕ) (tree : TreeView) (number : ℕ) (here : List ℕ) (h : StandsFrom bytes tree number here)
    (lt : number < length (tokens_of tree)) (o : Option (Token × ℕ))
    (each : (t : Token) (n : ℕ) → IsFirst t n here → o ≡ Some (t, n)) where
  the_first : first_of bytes tree number here h
  the_first = first_here bytes tree number here h (omega (arith, lt, places_count bytes tree h.spelled))

  found : o ≡ Some (the_first.p.token, length (spelling_of the_first.p.token))
  found = each the_first.p.token (length (spelling_of the_first.p.token)) the_first.first

  pub is_some : o ≡ None → ⊥
  is_some e = none_or_some (the_first.p.token, length (spelling_of the_first.p.token)) (sym e ∙ found)

  pub one_read : (t : Token) (n : ℕ) → o ≡ Some (t, n) → OneRead bytes tree number here h t n
  one_read t n e =
      let one = some_injective (t, n) (the_first.p.token, length (spelling_of the_first.p.token)) (sym e ∙ found) in
      let count : n ≡ length (spelling_of the_first.p.token) = ap (λ (x : Token × ℕ). x.1) one in
      record {
        first = the_first;
        token = ap (λ (x : Token × ℕ). x.0) one;
        count = count;
        within = omega (arith, count, the_first.first.within);
        some = omega (arith, count, the_first.first.some);
        more = stands_more bytes tree number here h the_first n count;
      }

-- a token is passed by its length
module _ (bytes : List ℕ) (tree : TreeView) (number : ℕ) (here : List ℕ) (h : StandsFrom bytes tree number here)
    (lt : number < length (tokens_of tree)) (count : ℕ)
    (each : (t : Token) (n : ℕ) → IsFirst t n here → count ≡ n) where
  pub one_passed : (t : Token) × OneRead bytes tree number here h t count
  one_passed =
      let first : first_of bytes tree number here h =
      first_here bytes tree number here h (omega (arith, lt, places_count bytes tree h.spelled)) in
      let same : count ≡ length (spelling_of first.p.token) = each first.p.token _ first.first in (
        first.p.token,
        record {
          first = first;
          token = refl;
          count = same;
          within = omega (arith, same, first.first.within);
          some = omega (arith, same, first.first.some);
          more = stands_more bytes tree number here h first count same;
        },
      )

-- where the token of a number is sought while others pass: it is reached, or so many behind the one that stands here
pub record SoughtHere (bytes : List ℕ) (tree : TreeView) (number : ℕ) (mark : List ℕ) (left : ℕ) (here : List ℕ)
    : Type 0
  where
    pub is : IsSought bytes tree number mark left
    pub ahead : 0 < left → mark ≡ here

pub sought_none : (bytes : List ℕ) (tree : TreeView) (number : ℕ) → IsSpelled bytes tree
    → IsSought bytes tree number (after_gap bytes) number
sought_none bytes tree number s = (0, omega arith, stands_none bytes tree s)

-- one more token has passed
pub sought_more : (bytes : List ℕ) (tree : TreeView) (number : ℕ) (mark : List ℕ) (left : ℕ) (here : List ℕ)
    → SoughtHere bytes tree number mark left here → number ≤ length (tokens_of tree) → (count : ℕ)
    → ((t : Token) (n : ℕ) → IsFirst t n here → count ≡ n) → (next : List ℕ) (fewer : ℕ)
    → (left ≡ 0 → (next ≡ mark) × (fewer ≡ 0))
    → (0 < left → (next ≡ after_gap (drop count here)) × (fewer + 1 ≡ left))
    → SoughtHere bytes tree number next fewer (after_gap (drop count here))
sought_more bytes tree number mark zero here h within count each next fewer reached nearer =
    let none = reached refl in
    record {
      is = (h.is.0, omega (arith, h.is.1, none.1), subst (StandsFrom bytes tree h.is.0) (sym none.0) h.is.2);
      ahead = λ lt. absurd (omega (arith, lt, none.1));
    }
sought_more bytes tree number mark (suc left) here h within count each next fewer reached nearer =
    let one = nearer (omega arith) in
    let stands : StandsFrom bytes tree h.is.0 here =
    subst (StandsFrom bytes tree h.is.0) (h.ahead (omega arith)) h.is.2 in
    let read = one_passed bytes tree h.is.0 here stands (omega (arith, h.is.1, within)) count each in
    record {
      is = (
        h.is.0 + 1,
        omega (arith, h.is.1, one.1),
        subst (StandsFrom bytes tree (h.is.0 + 1)) (sym one.0) read.1.more,
      );
      ahead = λ lt. one.0;
    }

-- these bytes spell it
pub read_spelling : (bytes : List ℕ) (tree : TreeView) (number : ℕ) (here : List ℕ)
    (h : StandsFrom bytes tree number here) (t : Token) (n : ℕ) → OneRead bytes tree number here h t n
    → IsSpelling t (take n here)
read_spelling bytes tree number here h t n r =
    subst (λ u. IsSpelling u (take n here)) (sym r.token)
    (subst (λ k. IsSpelling r.first.p.token (take k here)) (sym r.count) r.first.first.spells)

-- it has the bytes that are passed
pub read_span : (total number : ℕ) (places : List TokenAt) (here : List ℕ) → (f : FirstHere places total number here)
    → (start count : ℕ) → start ≡ total - length here → count ≡ length (spelling_of f.p.token)
    → span_from start (start + count) ≡ token_span f.p
read_span total number places here f start count from many =
    let at : start ≡ f.p.at = omega (arith, from, f.place) in
    λ j. span_from (at j) (at j + many j)

-- a text is spelled in one way
pub same_places : (bytes : List ℕ) (tree : TreeView) (s t : IsSpelled bytes tree) → s.places ≡ t.places
same_places bytes tree s t = one_lexing bytes s.places t.places s.spells t.spells

-- these are so many tokens from a number on, with their bytes
abbrev pub AreRead : List TokenAt → ℕ → ℕ → List Token → List Span → Type 0
AreRead places first i tokens spans =
    (tokens ≡ map (λ (p : TokenAt). p.token) (take i (drop first places)))
    × (spans ≡ map token_span (take i (drop first places)))

-- they have been read, and here the next one stands
pub record WordsHere (bytes : List ℕ) (tree : TreeView) (first i : ℕ) (here : List ℕ) (tokens : List Token)
    (spans : List Span) : Type 0 where
  pub number : ℕ
  pub at : number ≡ first + i
  pub stands : StandsFrom bytes tree number here
  pub read : AreRead stands.spelled.places first i tokens spans

pub words_none : (bytes : List ℕ) (tree : TreeView) (first : ℕ) (here : List ℕ) → StandsFrom bytes tree first here
    → WordsHere bytes tree first 0 here [] []
words_none bytes tree first here h = record { number = first; at = omega arith; stands = h; read = (refl, refl) }

-- one more of a list
next_taken : {A : Type 0} (xs : List A) (i : ℕ) (x : A) (rest : List A) → drop i xs ≡ x ∷ rest
    → take (suc i) xs ≡ take i xs ++ x ∷ []
next_taken [] zero x rest e = absurd cc
next_taken [] (suc i) x rest e = absurd cc
next_taken (y ∷ xs) zero x rest e = let same : y ≡ x = cc in ap (λ z. z ∷ []) same
next_taken (y ∷ xs) (suc i) x rest e = ap (λ ys. y ∷ ys) (next_taken xs i x rest e)

pub words_more : (bytes : List ℕ) (tree : TreeView) (first i : ℕ) (here : List ℕ) (tokens : List Token)
    (spans : List Span) → (h : WordsHere bytes tree first i here tokens spans) → (t : Token) (count : ℕ) (s : Span)
    → (r : OneRead bytes tree h.number here h.stands t count) → s ≡ token_span r.first.p
    → WordsHere bytes tree first (i + 1) (after_gap (drop count here)) (tokens ++ t ∷ []) (spans ++ s ∷ [])
words_more bytes tree first i here tokens spans h t count s r es =
    let places : List TokenAt = h.stands.spelled.places in
    let ps : List TokenAt = drop first places in
    let at : first + i ≡ h.number = omega (arith, h.at) in
    let one : i + 1 ≡ suc i = omega arith in
    let from : drop i ps ≡ drop h.number places = drop-drop i first places ∙ ap (λ n. drop n places) at in
    let next : take (i + 1) ps ≡ take i ps ++ r.first.p ∷ [] =
    ap (λ n. take n ps) one ∙ next_taken ps i r.first.p (drop (h.number + 1) places) (from ∙ r.first.left) in
    let behind : h.number + 1 ≡ first + (i + 1) = omega (arith, h.at) in
    record {
      number = h.number + 1;
      at = behind;
      stands = r.more;
      read = subst (λ qs. AreRead qs first (i + 1) (tokens ++ t ∷ []) (spans ++ s ∷ []))
          (same_places bytes tree h.stands.spelled r.more.spelled) (
            (λ j. h.read.0 j ++ r.token j ∷ []) ∙ sym (map_push (λ (p : TokenAt). p.token) (take i ps) r.first.p)
                ∙ ap (map (λ (p : TokenAt). p.token)) (sym next),
            (λ j. h.read.1 j ++ es j ∷ []) ∙ sym (map_push token_span (take i ps) r.first.p)
                ∙ ap (map token_span) (sym next),
          );
    }

map_window : {A B : Type 0} (f : A → B) (n k : ℕ) (xs : List A)
    → map f (take n (drop k xs)) ≡ take n (drop k (map f xs))
map_window f n k xs = sym (take-map f n (drop k xs)) ∙ ap (take n) (sym (drop-map f k xs))

module _ (bytes : List ℕ) (tree : TreeView) (first count : ℕ) (here : List ℕ) (tokens : List Token)
    (spans : List Span) (h : WordsHere bytes tree first count here tokens spans) where
  pub words_tokens : tokens ≡ take count (drop first (tokens_of tree))
  words_tokens =
      h.read.0 ∙ map_window (λ (p : TokenAt). p.token) count first h.stands.spelled.places
      ∙ ap (λ ts. take count (drop first ts)) (sym h.stands.spelled.parses.tokens)

  pub words_spans : (s : IsSpelled bytes tree) → spans ≡ take count (drop first (map token_span s.places))
  words_spans s =
      h.read.1 ∙ map_window token_span count first h.stands.spelled.places
      ∙ ap (λ ps. take count (drop first (map token_span ps))) (same_places bytes tree h.stands.spelled s)

  pub words_order : AreInOrder 0 (length bytes) spans
  words_order =
      subst (AreInOrder 0 (length bytes)) (sym (words_spans h.stands.spelled))
      (order_within 0 (length bytes) count first (map token_span h.stands.spelled.places)
      (spans_order bytes tree h.stands.spelled (map token_span h.stands.spelled.places) refl))
