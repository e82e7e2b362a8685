-- How the tokens of a row are kept and counted one by one.
use Rattle.std.proofs.Common.{◌≡◌, ℕ, ◌+◌, ◌<◌, ◌≤◌, List, [], ◌∷◌, ◌++◌, length, take, drop, get_or, refl, sym, ◌∙◌}
use Rattle.std.proofs.{Common.{ap, subst, map, arith, inl, inr, length-append, length-drop}, lemmas.Bool.{cases_lt}}
use Rattle.std.proofs.lemmas.List.{take_all, drop_all, take-append-le, drop-append-le, length-take-le}
use Rattle.std.proofs.lemmas.List.Elements.{filter-append}
use Rattle.std.specs.Prelude.{filter}
use Rattle.sect_front.specs.{TreeView.{TreeView}, Front.{IsSpelled}, FaultPlaces.{token_span}, Grammar.{tokens_of}}
use Rattle.sect_front.specs.{Gaps.{after_gap}, declared.span.Span.{Span}, declared.token.Token.{Token}}
use Rattle.sect_places.specs.{Spans.{no_span, AreInOrder}, Openings.{is_value, values_in, IsOpening}}
use Rattle.sect_places.specs.steps.Standing.{StandsFrom}
use Rattle.sect_places.proofs.Standing.{WordsHere, OneRead, words_none, words_more, words_tokens, words_spans}
use Rattle.sect_places.proofs.{Standing.{words_order}, WantedNames.{shorter}}

pushed_at : {A : Type 0} (xs : List A) (x d : A) → get_or (xs ++ x ∷ []) (length xs) d ≡ x
pushed_at [] x d = refl
pushed_at (y ∷ xs) x d = pushed_at xs x d

-- of the tokens of a row some are kept
module _ (tokens : List Token) (spans : List Span) (kept : List Token) (bytes : List Span) (values : ℕ) (last : Span)
    (h : IsOpening tokens spans kept bytes values last) where
  pub values_fit : values ≤ length tokens
  values_fit = omega (arith, h.others, shorter is_value (drop 2 tokens), length-drop 2 tokens)

  few_kept : length tokens ≤ 4 → length kept ≡ length tokens
  few_kept le = ap length (h.first ∙ take_all 4 tokens le)

  most_kept : 4 ≤ length tokens → length kept ≡ 4
  most_kept ge = ap length h.first ∙ length-take-le 4 tokens ge

  two_kept : 2 ≤ length tokens → 2 ≤ length kept
  two_kept ge = elim (cases_lt (length tokens) 4) [
    | inl lt ↦ omega (arith, ge, few_kept (omega (arith, lt)))
    | inr more ↦ omega (arith, most_kept more)
  ]

  -- one token more
  module _ (t : Token) (s : Span) (new : List Token) (places : List Span) (more : ℕ)
      (few : length kept < 4 → (new ≡ kept ++ t ∷ []) × (places ≡ bytes ++ s ∷ []))
      (many : 4 ≤ length kept → (new ≡ kept) × (places ≡ bytes))
      (first : length kept < 2 → more ≡ 0) (counted : 2 ≤ length kept → more ≡ values_in (t ∷ [])) where
    now_kept : (new ≡ take 4 (tokens ++ t ∷ [])) × (places ≡ take 4 (spans ++ s ∷ []))
    now_kept = elim (cases_lt (length tokens) 4) [
      | inl lt ↦ (
          let now = few (omega (arith, lt, few_kept (omega (arith, lt)))) in (
            now.0 ∙ (ap (λ ts. ts ++ t ∷ []) (h.first ∙ take_all 4 tokens (omega (arith, lt)))
                ∙ sym (take_all 4 (tokens ++ t ∷ []) (omega (arith, lt, length-append tokens (t ∷ []))))),
            now.1 ∙ (ap (λ ss. ss ++ s ∷ []) (h.places ∙ take_all 4 spans (omega (arith, lt, h.many)))
                ∙ sym (take_all 4 (spans ++ s ∷ []) (omega (arith, lt, h.many, length-append spans (s ∷ []))))),
          ))
      | inr ge ↦ (
          let now = many (omega (arith, most_kept ge)) in (
            now.0 ∙ (h.first ∙ sym (take-append-le 4 tokens (t ∷ []) ge)),
            now.1 ∙ (h.places ∙ sym (take-append-le 4 spans (s ∷ []) (omega (arith, ge, h.many)))),
          ))
    ]

    now_counted : values + more ≡ values_in (drop 2 (tokens ++ t ∷ []))
    now_counted = elim (cases_lt (length tokens) 2) [
      | inl lt ↦ omega (
        arith,
        first (omega (arith, lt, few_kept (omega (arith, lt)))),
        h.others,
        ap values_in (drop_all 2 tokens (omega (arith, lt))),
        ap values_in (drop_all 2 (tokens ++ t ∷ []) (omega (arith, lt, length-append tokens (t ∷ [])))),
      )
      | inr ge ↦ omega (
        arith,
        counted (two_kept ge),
        h.others,
        ap values_in (drop-append-le 2 tokens (t ∷ []) ge),
        ap length (filter-append is_value (drop 2 tokens) (t ∷ [])),
        length-append (filter is_value (drop 2 tokens)) (filter is_value (t ∷ [])),
      )
    ]

    pub one_more : more ≤ 1
    one_more = elim (cases_lt (length kept) 2) [
      | inl lt ↦ omega (arith, first lt)
      | inr ge ↦ omega (arith, counted ge, shorter is_value (t ∷ []))
    ]

    pub opening_more : IsOpening (tokens ++ t ∷ []) (spans ++ s ∷ []) new places (values + more) s
    opening_more = record {
      many = omega (arith, h.many, length-append spans (s ∷ []), length-append tokens (t ∷ []));
      first = now_kept.0;
      places = now_kept.1;
      others = now_counted;
      end = λ k e.
          (let at : k ≡ length spans = omega (arith, e, length-append spans (s ∷ [])) in
          sym (pushed_at spans s no_span) ∙ ap (λ n. get_or (spans ++ s ∷ []) n no_span) (sym at));
    }

pub opening_none : IsOpening [] [] [] [] 0 no_span
opening_none = record { many = refl; first = refl; places = refl; others = refl; end = λ k e. refl }

-- so many tokens have been read, these are kept of them, and here the next one stands
pub record OpenedHere (bytes : List ℕ) (tree : TreeView) (first i : ℕ) (here : List ℕ) (kept : List Token)
    (places : List Span) (values : ℕ) (last : Span) : Type 0 where
  pub tokens : List Token
  pub spans : List Span
  pub words : WordsHere bytes tree first i here tokens spans
  pub opening : IsOpening tokens spans kept places values last
  pub count : length tokens ≡ i

pub opened_none : (bytes : List ℕ) (tree : TreeView) (first : ℕ) (here : List ℕ) → StandsFrom bytes tree first here
    → OpenedHere bytes tree first 0 here [] [] 0 no_span
opened_none bytes tree first here h = record {
  tokens = [];
  spans = [];
  words = words_none bytes tree first here h;
  opening = opening_none;
  count = refl;
}

pub opened_more : (bytes : List ℕ) (tree : TreeView) (first i : ℕ) (here : List ℕ) (kept : List Token)
    (places : List Span) (values : ℕ) (last : Span) → (o : OpenedHere bytes tree first i here kept places values last)
    → (t : Token) (count : ℕ) (s : Span) → (r : OneRead bytes tree o.words.number here o.words.stands t count)
    → s ≡ token_span r.first.p → (new : List Token) (after : List Span) (more : ℕ)
    → IsOpening (o.tokens ++ t ∷ []) (o.spans ++ s ∷ []) new after (values + more) s
    → OpenedHere bytes tree first (i + 1) (after_gap (drop count here)) new after (values + more) s
opened_more bytes tree first i here kept places values last o t count s r is new after more opening = record {
  tokens = o.tokens ++ t ∷ [];
  spans = o.spans ++ s ∷ [];
  words = words_more bytes tree first i here o.tokens o.spans o.words t count s r is;
  opening = opening;
  count = omega (arith, o.count, length-append o.tokens (t ∷ []));
}

-- all of them have been read
pub opened_all : (bytes : List ℕ) (tree : TreeView) (first count : ℕ) (here : List ℕ) (kept : List Token)
    (places : List Span) (values : ℕ) (last : Span) → OpenedHere bytes tree first count here kept places values last
    → (s : IsSpelled bytes tree) → IsOpening (take count (drop first (tokens_of tree)))
    (take count (drop first (map token_span s.places))) kept places values last
    × AreInOrder 0 (length bytes) (take count (drop first (map token_span s.places)))
opened_all bytes tree first count here kept places values last o s =
    let ts = words_tokens bytes tree first count here o.tokens o.spans o.words in
    let ss = words_spans bytes tree first count here o.tokens o.spans o.words s in (
      subst (λ xs. IsOpening xs (take count (drop first (map token_span s.places))) kept places values last) ts
          (subst (λ ys. IsOpening o.tokens ys kept places values last) ss o.opening),
      subst (AreInOrder 0 (length bytes)) ss
          (words_order bytes tree first count here o.tokens o.spans o.words),
    )
