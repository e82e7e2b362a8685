-- What is printed of warnings has no float.
use Rattle.std.proofs.{Common.{◌≡◌, ℕ, List, [], ◌∷◌, map, false, refl}, lemmas.Bool.{or_from}}
use Rattle.serde_json.specs.{View.{items_of}, Written.{has_float, items_have_float}}
use Rattle.sect_front.specs.declared.span.Span.{Span}
use Rattle.sect_warnings.specs.{Json.{labels_json, warning_json}, Placed.{PlacedView}}
use Rattle.sect_warnings.specs.Sarif.{result_json, warnings_log}

plain_labels : (source : List ℕ) (span : Span) (label : List ℕ) → has_float (labels_json source span label) ≡ false
plain_labels source span [] = refl
plain_labels source span (b ∷ bs) = refl

pub plain_warning : (source : List ℕ) (p : PlacedView) → has_float (warning_json source p) ≡ false
plain_warning source p = or_from _ _ (plain_labels source p.span p.label) refl

plain_results : (uri source : List ℕ) (ps : List PlacedView)
    → items_have_float (items_of (map (result_json uri source) ps)) ≡ false
plain_results uri source [] = refl
plain_results uri source (p ∷ ps) = or_from _ _ refl (plain_results uri source ps)

pub plain_log : (uri source : List ℕ) (ps : List PlacedView) → has_float (warnings_log uri source ps) ≡ false
plain_log uri source ps = or_from _ _ (or_from _ _ (or_from _ _ (plain_results uri source ps) refl) refl) refl
