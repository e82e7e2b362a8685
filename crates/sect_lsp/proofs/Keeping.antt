-- The texts of documents that were opened and closed.
use Rattle.std.proofs.Common.{◌≡◌, ◌≢◌, ℕ, List, [], ◌∷◌, ◌++◌, Some, None, Bool, true, false, not, cond, refl, ap, sym}
use Rattle.std.proofs.{Common.{◌∙◌, Bor, Option, IfSome, filter, map}, lemmas.List.Elements.{All-head, All-tail}}
use Rattle.std.proofs.lemmas.Slice.Eq.{bytes_eq-Decides}
use Rattle.std.proofs.lemmas.Bool.{false_from_ne_true}
use Rattle.std.specs.{Prelude.{All, option_map}, Str.{bytes_eq}}
use Rattle.sect_lsp.specs.Documents.{DocumentView, text_of, closed, opened}
use Rattle.sect_lsp.specs.steps.Keeping.{KeptView, document_of, kept_of}

is_same : (a : List ℕ) → bytes_eq a a ≡ true
is_same a = (bytes_eq-Decides a a).1 refl

not_same : (a b : List ℕ) → a ≢ b → bytes_eq a b ≡ false
not_same a b h = false_from_ne_true (bytes_eq a b) (λ e. h ((bytes_eq-Decides a b).0 e))

module _ (uri : List ℕ) where
  forgotten_by : (d : DocumentView) (ds : List DocumentView) (b : Bool) → bytes_eq d.uri uri ≡ b
      → text_of uri (closed uri ds) ≡ None → text_of uri (cond (not b) (d ∷ closed uri ds) (closed uri ds)) ≡ None
  forgotten_by d ds true e h = h
  forgotten_by d ds false e h = ap (λ c. cond c (Some d.text) (text_of uri (closed uri ds))) e ∙ h

  pub forgotten : (ds : List DocumentView) → text_of uri (closed uri ds) ≡ None
  forgotten [] = refl
  forgotten (d ∷ ds) = forgotten_by d ds (bytes_eq d.uri uri) refl (forgotten ds)

  module _ (other : List ℕ) (apart : other ≢ uri) where
    others_by : (d : DocumentView) (ds : List DocumentView) (b : Bool) → bytes_eq d.uri uri ≡ b
        → text_of other (closed uri ds) ≡ text_of other ds
        → text_of other (cond (not b) (d ∷ closed uri ds) (closed uri ds)) ≡ text_of other (d ∷ ds)
    others_by d ds true e h =
        let called : d.uri ≡ uri = (bytes_eq-Decides d.uri uri).0 e in
        h ∙ sym (ap (λ c. cond c (Some d.text) (text_of other ds))
        (not_same d.uri other (λ same. apart (sym same ∙ called))))
    others_by d ds false e h = ap (cond (bytes_eq d.uri other) (Some d.text)) h

    pub others_stay : (ds : List DocumentView) → text_of other (closed uri ds) ≡ text_of other ds
    others_stay [] = refl
    others_stay (d ∷ ds) = others_by d ds (bytes_eq d.uri uri) refl (others_stay ds)

    last_is_other : (text : List ℕ) (ds : List DocumentView)
        → text_of other (ds ++ record { uri = uri; text = text } ∷ []) ≡ text_of other ds
    last_is_other text [] = ap (λ c. cond c (Some text) None) (not_same uri other (λ same. apart (sym same)))
    last_is_other text (d ∷ ds) = ap (cond (bytes_eq d.uri other) (Some d.text)) (last_is_other text ds)

    pub others_stay_opened : (text : List ℕ) (ds : List DocumentView)
        → text_of other (opened uri text ds) ≡ text_of other ds
    others_stay_opened text ds = last_is_other text (closed uri ds) ∙ others_stay ds

  last_by : (text : List ℕ) (d : DocumentView) (ds : List DocumentView) (b : Bool)
      → cond b (Some d.text) (text_of uri ds) ≡ None
      → (text_of uri ds ≡ None → text_of uri (ds ++ record { uri = uri; text = text } ∷ []) ≡ Some text)
      → cond b (Some d.text) (text_of uri (ds ++ record { uri = uri; text = text } ∷ [])) ≡ Some text
  last_by text d ds true e h = absurd cc
  last_by text d ds false e h = h e

  last : (text : List ℕ) (ds : List DocumentView) → text_of uri ds ≡ None
      → text_of uri (ds ++ record { uri = uri; text = text } ∷ []) ≡ Some text
  last text [] e = ap (λ c. cond c (Some text) None) (is_same uri)
  last text (d ∷ ds) e = last_by text d ds (bytes_eq d.uri uri) e (last text ds)

  pub found : (text : List ℕ) (ds : List DocumentView) → text_of uri (opened uri text ds) ≡ Some text
  found text ds = last text (closed uri ds) (forgotten ds)

  -- ---- with what they are compiled to

  text_by : (d : KeptView) (ds : List KeptView) (b : Bool)
      → option_map (λ e. e.text) (kept_of uri ds) ≡ text_of uri (map document_of ds)
      → option_map (λ e. e.text) (cond b (Some d) (kept_of uri ds))
      ≡ cond b (Some d.text) (text_of uri (map document_of ds))
  text_by d ds true h = refl
  text_by d ds false h = h

  pub text_kept : (ds : List KeptView)
      → option_map (λ e. e.text) (kept_of uri ds) ≡ text_of uri (map document_of ds)
  text_kept [] = refl
  text_kept (d ∷ ds) = text_by d ds (bytes_eq d.uri uri) (text_kept ds)

  closed_by : (d : KeptView) (ds : List KeptView) (b : Bool)
      → map document_of (filter (λ e. not (bytes_eq e.uri uri)) ds) ≡ closed uri (map document_of ds)
      → map document_of (cond b (d ∷ filter (λ e. not (bytes_eq e.uri uri)) ds)
      (filter (λ e. not (bytes_eq e.uri uri)) ds))
      ≡ cond b (document_of d ∷ closed uri (map document_of ds)) (closed uri (map document_of ds))
  closed_by d ds true h = ap (λ es. document_of d ∷ es) h
  closed_by d ds false h = h

  pub closed_kept : (ds : List KeptView)
      → map document_of (filter (λ e. not (bytes_eq e.uri uri)) ds) ≡ closed uri (map document_of ds)
  closed_kept [] = refl
  closed_kept (d ∷ ds) = closed_by d ds (not (bytes_eq d.uri uri)) (closed_kept ds)

  module _ (P : KeptView → Type 0) where
    found_by : (d : KeptView) (ds : List KeptView) (b : Bool) → P d → IfSome (kept_of uri ds) P
        → IfSome (cond b (Some d) (kept_of uri ds)) P
    found_by d ds true p h = p
    found_by d ds false p h = h

    pub found_kept : (ds : List KeptView) → All P ds → IfSome (kept_of uri ds) P
    found_kept [] all = tt
    found_kept (d ∷ ds) all =
        found_by d ds (bytes_eq d.uri uri) (All-head P d ds all) (found_kept ds (All-tail P d ds all))

-- what is lent is what it refers to
pub lent_text : (o : Option (Bor KeptView)) → option_map (λ d. d.now.text) o
    ≡ option_map (λ e. e.text) (option_map (λ d. d.now) o)
lent_text None = refl
lent_text (Some d) = refl

pub lent_kept : (P : KeptView → Type 0) (o : Option (Bor KeptView)) → IfSome (option_map (λ d. d.now) o) P
    → IfSome o (λ d. P d.now)
lent_kept P None h = tt
lent_kept P (Some d) h = h
