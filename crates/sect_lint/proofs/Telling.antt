-- Lists of values that are made one by one, and values without floats.
use Rattle.std.proofs.Common.{◌≡◌, ◌≤◌, ◌<◌, ℕ, ◌+◌, List, [], ◌∷◌, ◌++◌, map, take, length, get_or, false, refl, ◌∙◌}
use Rattle.std.proofs.{Common.{sym, ap}, lemmas.Bool.{or_from}, lemmas.List.{map-append, take_all, take_more}}
use Rattle.std.specs.{Prelude.{Vec}, declared.alloc.Global.{Global}}
use Rattle.serde_json.specs.{Data.{Data}, View.{view, items_of}, Written.{has_float, items_have_float}}
use Rattle.serde_json.specs.declared.value.Value.{Value, Array}
use Rattle.serde_json.proofs.Views.{view-Array}
use Rattle.sect_front.specs.declared.span.Span.{Span}
use Rattle.sect_lint.specs.{Json.{list, call_json, diagnostic_json}, Sarif.{related_call, diagnostic_log}}
use Rattle.sect_lint.specs.{declared.diagnostic.Detail.{Detail}, declared.diagnostic.Diagnostic.{Diagnostic}}
use Rattle.sect_lint.specs.declared.mistake.Mistake.{Mistake}
use Rattle.sect_lint.specs.declared.diagnostic.Detail.TheVariants as detail

module _ {A : Type 0} (of : A → Data) (xs : List A) where
  -- the values of the first elements, and that of the next
  pub told_more : (n : ℕ) (d x : A) (values more : List Value) (v : Value) → n < length xs → x ≡ get_or xs n d
      → map view values ≡ map of (take n xs) → more ≡ values ++ v ∷ [] → view v ≡ of x
      → map view more ≡ map of (take (n + 1) xs)
  told_more n d x values more v within is had pushed told =
      let taken : take (n + 1) xs ≡ take n xs ++ x ∷ [] =
      take_more xs n d within ∙ ap (λ y. take n xs ++ y ∷ []) (sym is) in
      ap (map view) pushed ∙ (map-append view values (v ∷ []) ∙ (ap (λ d. map view values ++ d ∷ []) told
      ∙ (ap (λ ds. ds ++ of x ∷ []) had ∙ (sym (map-append of (take n xs) (x ∷ [])) ∙ ap (map of) (sym taken)))))

  -- those of all, where there are no more
  pub told_all : (n : ℕ) (values : Vec Value Global) → length xs ≤ n → map view values.items ≡ map of (take n xs)
      → view (Array values) ≡ list (map of xs)
  told_all n values past had = view-Array values ∙ ap list (had ∙ ap (map of) (take_all n xs past))

plain_each : {A : Type 0} (of : A → Data) → ((x : A) → has_float (of x) ≡ false) → (xs : List A)
    → items_have_float (items_of (map of xs)) ≡ false
plain_each of each [] = refl
plain_each of each (x ∷ xs) = or_from _ _ (each x) (plain_each of each xs)

pub plain_json : (source : List ℕ) (d : Diagnostic) → has_float (diagnostic_json source d) ≡ false
plain_json source d = by d.mistake d.span d.detail
  where
    by : (m : Mistake) (s : Span) (t : Detail)
        → has_float (diagnostic_json source (record { mistake = m; span = s; detail = t })) ≡ false
    by m s (detail.Circle calls) = or_from _ _ (plain_each (call_json source) (λ c. refl) calls.items) refl
    by m s detail.Nothing = refl
    by m s (detail.Bytes n) = refl
    by m s (detail.OpenBrace at) = refl
    by m s (detail.Earlier e) = refl
    by m s (detail.Type t) = refl
    by m s (detail.Types a b) = refl
    by m s (detail.Limit l) = refl
    by m s (detail.Counts c) = refl
    by m s (detail.Expected kinds) = refl

pub plain_log : (uri source : List ℕ) (d : Diagnostic) → has_float (diagnostic_log uri source d) ≡ false
plain_log uri source d = by d.mistake d.span d.detail
  where
    by : (m : Mistake) (s : Span) (t : Detail)
        → has_float (diagnostic_log uri source (record { mistake = m; span = s; detail = t })) ≡ false
    by m s (detail.Circle calls) =
        or_from _ _ (or_from _ _ (or_from _ _ (or_from _ _ (or_from _ _
        (plain_each (related_call uri source) (λ c. refl) calls.items) refl) refl) refl) refl) refl
    by m s detail.Nothing = refl
    by m s (detail.Bytes n) = refl
    by m s (detail.OpenBrace at) = refl
    by m s (detail.Earlier e) = refl
    by m s (detail.Type t) = refl
    by m s (detail.Types a b) = refl
    by m s (detail.Limit l) = refl
    by m s (detail.Counts c) = refl
    by m s (detail.Expected kinds) = refl
