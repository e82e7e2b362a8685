-- Where warnings stand.
use Rattle.std.proofs.Common.{◌≡◌, ◌<◌, ℕ, zero, suc, List, [], ◌∷◌, length, map, get_or, refl, sym, ap, ◌∙◌, subst}
use Rattle.std.proofs.Common.{arith}
use Rattle.std.proofs.Common.{◌++◌, ◌+◌, Option, Some, None, below_more, length-append}
use Rattle.std.proofs.lemmas.List.{append_assoc, append-nil, get_or_append_left, get_or_push}
use Rattle.std.specs.List.{AllZip}
use Rattle.sect_front.specs.{Front.{IsSpelled}, FaultPlaces.{IsWithin, token_span}, declared.span.Span.{Span}}
use Rattle.sect_front.proofs.shared.Lexings.{one_lexing}
use Rattle.sect_places.specs.{declared.name_use.NameSpan.{NameSpan}, declared.range.TokenRange.{TokenRange}}
use Rattle.sect_places.specs.{Items.{AreItemSpans}, Ranges.{item_tokens}, Spans.{no_span, span_in, AreProper}}
use Rattle.sect_lint.specs.Places.{no_range}
use Rattle.sect_emit.specs.Compiled.{CompiledView}
use Rattle.sect_warnings.specs.{declared.warning.Warning.{Warning}, Marks.{MarkView}, Labels.{IsMarkOf}}
use Rattle.sect_warnings.specs.{Placed.{PlacedView}, Reports.{IsPlaced, AreWithin}}
use Rattle.sect_warnings.specs.{declared.trials.Trial.{Trial}, declared.warning.Finding.{Finding}}
use Rattle.sect_warnings.specs.{ClassLocks.{class_lock}, Hinting.{IsHintSaid}, Labels.{IsMarkedFor}}
use Rattle.sect_warnings.specs.Titles.{class_note}
use Rattle.sect_warnings.specs.steps.Trials.{BareView, IsBareMark, IsBareFor, IsTrialSaid, AreNoted, no_placed}
use Rattle.sect_warnings.specs.steps.Trials.{with_note, trial_of}
use Rattle.sect_warnings.specs.declared.warning.Finding.TheVariants as finding
use Rattle.sect_warnings.specs.declared.warning.Told.TheVariants as told

-- a warning with the bytes that are marked for it, where these are the spans of all items
pub record IsPut (source : List ℕ) (names : List NameSpan) (c : CompiledView) (spans : List Span) (w : Warning)
    (p : PlacedView) : Type 0
  where
    pub told : p.told ≡ told.Section w
    pub mark : MarkView
    pub marks : IsMarkOf source names c w mark
    pub there : mark.item < length spans
    pub span : p.span ≡ get_or spans mark.item no_span
    pub label : p.label ≡ mark.label
    pub note : p.note ≡ mark.note

one_of : (tokens : List Span) (rs : List TokenRange) (i : ℕ) → i < length (map (span_in tokens) rs)
    → get_or (map (span_in tokens) rs) i no_span ≡ span_in tokens (get_or rs i no_range)
one_of tokens [] i lt = absurd (omega (arith, lt))
one_of tokens (r ∷ rs) zero lt = refl
one_of tokens (r ∷ rs) (suc i) lt = one_of tokens rs i (omega (arith, lt))

proper_at : (total : ℕ) (spans : List Span) (i : ℕ) → AreProper total spans → i < length spans
    → IsWithin total (get_or spans i no_span)
proper_at total [] i h lt = absurd (omega (arith, lt))
proper_at total (s ∷ spans) zero h lt = (omega (arith, h.0.0), h.0.1)
proper_at total (s ∷ spans) (suc i) h lt = proper_at total spans i h.1 (omega (arith, lt))

module _ (source : List ℕ) (names : List NameSpan) (c : CompiledView) (spans : List Span)
    (h : AreItemSpans source c.scheme.program.source spans) where
  -- they are those of the items of the text's tree
  pub all_placed : (spelled : IsSpelled source c.scheme.program.source) (ws : List Warning) (ps : List PlacedView)
      → AllZip (IsPut source names c spans) ws ps → AllZip (IsPlaced source names c spelled) ws ps
  all_placed spelled [] [] each = tt
  all_placed spelled [] (p ∷ ps) each = absurd each
  all_placed spelled (w ∷ ws) [] each = absurd each
  all_placed spelled (w ∷ ws) (p ∷ ps) each =
      let item = each.0.mark.item in
      let ranges = item_tokens c.scheme.program.source in
      let same = one_lexing source h.spelled.places spelled.places h.spelled.spells spelled.spells in (
        record {
          told = each.0.told;
          mark = each.0.mark;
          marks = each.0.marks;
          span = each.0.span ∙ (ap (λ l. get_or l item no_span) h.are
              ∙ (one_of (map token_span h.spelled.places) ranges item
              (subst (λ l. item < length l) h.are each.0.there)
              ∙ ap (λ l. span_in (map token_span l) (get_or ranges item no_range)) same));
          label = each.0.label;
          note = each.0.note;
        },
        all_placed spelled ws ps each.1,
      )

  -- they are bytes of the text
  pub within : (ws : List Warning) (ps : List PlacedView) → AllZip (IsPut source names c spans) ws ps
      → AreWithin (length source) ps
  within [] [] each k d lt = absurd (omega arith)
  within [] (p ∷ ps) each k d lt = absurd each
  within (w ∷ ws) [] each k d lt = absurd each
  within (w ∷ ws) (p ∷ ps) each zero d lt =
      subst (IsWithin (length source)) (sym each.0.span)
      (proper_at (length source) spans each.0.mark.item h.proper each.0.there)
  within (w ∷ ws) (p ∷ ps) each (suc k) d lt = within ws ps each.1 k d (omega arith)

-- what holds at each place holds of two lists
zip_from_places : {A B : Type 0} → (R : A → B → Type 0) (xs : List A) (ys : List B) (d : A) (e : B)
    → length xs ≡ length ys → ((k : ℕ) → k < length xs → R (get_or xs k d) (get_or ys k e)) → AllZip R xs ys
zip_from_places R [] [] d e same each = tt
zip_from_places R [] (y ∷ ys) d e same each = absurd (omega (arith, same))
zip_from_places R (x ∷ xs) [] d e same each = absurd (omega (arith, same))
zip_from_places R (x ∷ xs) (y ∷ ys) d e same each =
    (each 0 (omega arith), zip_from_places R xs ys d e (omega (arith, same)) (λ k lt. each (suc k) (omega (arith, lt))))

-- a warning with its place, before what hints come to
pub record IsBarePut (source : List ℕ) (names : List NameSpan) (c : CompiledView) (spans : List Span) (w : Warning)
    (p : PlacedView) (t : Option Trial) : Type 0
  where
    pub told : p.told ≡ told.Section w
    pub mark : BareView
    pub marks : IsBareMark source names c w mark
    pub there : mark.item < length spans
    pub span : p.span ≡ get_or spans mark.item no_span
    pub label : p.label ≡ mark.label
    pub note : p.note ≡ mark.note
    pub trial : t ≡ mark.trial

abbrev pub no_warning : Warning
no_warning = record { section = 0; finding = finding.NoLock; item = 0 }

-- what a warning's mark is with what its hint comes to
marked_with : (source : List ℕ) (names : List NameSpan) (c : CompiledView) (i item : ℕ) (f : Finding) (m : BareView)
    (said : List ℕ) → IsBareFor source names c i item f m → IsTrialSaid source names c m.trial said
    → IsMarkedFor source names c i item f (record { item = m.item; label = m.label; note = m.note ++ said })
marked_with source names c i item finding.NoLock m said marks says =
    let none : said ≡ [] = subst (λ t. IsTrialSaid source names c t said) marks.3 says in
    (marks.0, marks.1, ap (λ s. m.note ++ s) none ∙ append-nil m.note ∙ marks.2)
marked_with source names c i item finding.AllForOne m said marks says =
    let none : said ≡ [] = subst (λ t. IsTrialSaid source names c t said) marks.3 says in
    (marks.0, marks.1, ap (λ s. m.note ++ s) none ∙ append-nil m.note ∙ marks.2)
marked_with source names c i item (finding.NeverFilled j x) m said marks says =
    let none : said ≡ [] = subst (λ t. IsTrialSaid source names c t said) marks.3 says in
    (marks.0, marks.1, ap (λ s. m.note ++ s) none ∙ append-nil m.note ∙ marks.2)
marked_with source names c i item (finding.NoCommonField j) m said marks says =
    let none : said ≡ [] = subst (λ t. IsTrialSaid source names c t said) marks.3 says in
    (marks.0, marks.1, ap (λ s. m.note ++ s) none ∙ append-nil m.note ∙ marks.2)
marked_with source names c i item (finding.LostUpdate u) m said marks says =
    let none : said ≡ [] = subst (λ t. IsTrialSaid source names c t said) marks.3 says in
    (marks.0, marks.1, ap (λ s. m.note ++ s) none ∙ append-nil m.note ∙ marks.2)
marked_with source names c i item (finding.ClassLock n e) m said (r, marked, bare, trial) says = (
  r,
  marked,
  (
    bare.0,
    said,
    bare.1,
    by r (subst (λ t. IsTrialSaid source names c t said) trial says),
    ap (λ s. s ++ said) bare.2 ∙ append_assoc class_note bare.0 said,
  ),
)
  where
    by : (r : Option ℕ) → IsTrialSaid source names c (trial_of i n e r) said
        → IsHintSaid source names c i (class_lock n e) r said
    by None none = none
    by (Some q) told = told

module _ (source : List ℕ) (names : List NameSpan) (c : CompiledView) (spans : List Span) (found : List Warning)
  where
    -- the first warnings, so many, with their places and what is to be tried for them
    pub record ArePut (m : ℕ) (placed : List PlacedView) (trials : List (Option Trial)) : Type 0 where
      pub placed_many : length placed ≡ m
      pub trials_many : length trials ≡ m
      pub each : (k : ℕ) → k < m
          → IsBarePut source names c spans (get_or found k no_warning) (get_or placed k no_placed)
          (get_or trials k None)

    pub none_put : ArePut 0 [] []
    none_put = record { placed_many = refl; trials_many = refl; each = λ k lt. absurd (omega (arith, lt)) }

    pub one_put : (m : ℕ) (placed : List PlacedView) (trials : List (Option Trial)) (p : PlacedView) (t : Option Trial)
        → ArePut m placed trials → IsBarePut source names c spans (get_or found m no_warning) p t
        → ArePut (m + 1) (placed ++ p ∷ []) (trials ++ t ∷ [])
    one_put m placed trials p t put one = record {
      placed_many = omega (arith, length-append placed (p ∷ []), put.placed_many);
      trials_many = omega (arith, length-append trials (t ∷ []), put.trials_many);
      each = below_more (λ k. IsBarePut source names c spans (get_or found k no_warning)
          (get_or (placed ++ p ∷ []) k no_placed) (get_or (trials ++ t ∷ []) k None)) m
          (λ k below.
          (let first = sym (get_or_append_left placed (p ∷ []) no_placed k (omega (arith, below, put.placed_many))) in
          let second = sym (get_or_append_left trials (t ∷ []) None k (omega (arith, below, put.trials_many))) in
          subst (λ q. IsBarePut source names c spans (get_or found k no_warning) q (get_or (trials ++ t ∷ []) k None))
          first (subst (IsBarePut source names c spans (get_or found k no_warning) (get_or placed k no_placed)) second
          (put.each k below))))
          (subst (λ q. IsBarePut source names c spans (get_or found m no_warning) q (get_or (trials ++ t ∷ []) m None))
          (sym (get_or_push placed p no_placed m put.placed_many))
          (subst (IsBarePut source names c spans (get_or found m no_warning) p)
          (sym (get_or_push trials t None m put.trials_many)) one));
    }

    -- with what their hints come to
    with_hint : (w : Warning) (p q : PlacedView) (t : Option Trial) (said : List ℕ)
        → IsBarePut source names c spans w p t → IsTrialSaid source names c t said → q ≡ with_note p said
        → IsPut source names c spans w q
    with_hint w p q t said bare says is = subst (IsPut source names c spans w) (sym is) (record {
      told = bare.told;
      mark = record { item = bare.mark.item; label = bare.mark.label; note = bare.mark.note ++ said };
      marks = marked_with source names c w.section w.item w.finding bare.mark said bare.marks
          (subst (λ o. IsTrialSaid source names c o said) bare.trial says);
      there = bare.there;
      span = bare.span;
      label = bare.label;
      note = ap (λ n. n ++ said) bare.note;
    })

    pub all_put : (placed now : List PlacedView) (trials : List (Option Trial)) → ArePut (length found) placed trials
        → AreNoted (IsTrialSaid source names c) trials placed now
        → AllZip (IsPut source names c spans) found now
    all_put placed now trials put noted =
        zip_from_places (IsPut source names c spans) found now no_warning no_placed
        (sym (noted.still ∙ put.placed_many))
        (λ k lt.
        (let a = noted.each k (omega (arith, lt, put.placed_many)) in
        with_hint (get_or found k no_warning) (get_or placed k no_placed) (get_or now k no_placed)
        (get_or trials k None)
        a.0 (put.each k lt) a.1 a.2))
