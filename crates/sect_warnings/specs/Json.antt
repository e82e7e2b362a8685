-- A warning as a value of JSON.
use Rattle.std.specs.Prelude.{ℕ, List, [], ◌∷◌, codes}
use Rattle.serde_json.specs.Data.{Data, string, object, no_members, member}
use Rattle.sect_front.specs.declared.span.Span.{Span}
use Rattle.sect_lint.specs.Json.{list, label_json, span_json}
use Rattle.sect_warnings.specs.{Placed.{PlacedView}, Titles.{told_name, told_title}}

-- what is said of marked bytes, if anything
abbrev pub labels_json : List ℕ → Span → List ℕ → Data
labels_json source span [] = list []
labels_json source span (b ∷ bs) = list (label_json source (b ∷ bs) span ∷ [])

abbrev pub warning_json : List ℕ → PlacedView → Data
warning_json source p =
    object (member (codes "code") (string (told_name p.told))
    (member (codes "labels") (labels_json source p.span p.label) (member (codes "message") (string (told_title p.told))
    (member (codes "notes") (list (string p.note ∷ []))
    (member (codes "severity") (string (codes "warning")) (member (codes "span") (span_json source p.span)
    no_members))))))
