-- A diagnostic as a value of JSON.
use Rattle.std.specs.{Prelude.{ℕ, List, [], ◌∷◌, ◌++◌, codes, map}, Fmt.{decimal}}
use Rattle.serde_json.specs.{Data.{Data, number, string, array, object, unsigned, no_members, member}, View.{items_of}}
use Rattle.sect_front.specs.{Front.{line_of}, FaultPlaces.{span_from}, declared.span.Span.{Span}}
use Rattle.sect_places.specs.Positions.{column_of}
use Rattle.sect_lint.specs.{declared.diagnostic.Detail.{Detail}, declared.diagnostic.Diagnostic.{Diagnostic}}
use Rattle.sect_lint.specs.{Limits.{words_of}, Kinds.{kinds_text}, Labels.{quoted, typed_text, counts_text}}
use Rattle.sect_lint.specs.{Mistakes.{number_of, title_of}, Advised.{wanted}}
use Rattle.sect_lint.specs.declared.diagnostic.Detail.TheVariants as detail

abbrev pub count : ℕ → Data
count n = number (unsigned n)

abbrev pub list : List Data → Data
list values = array (items_of values)

-- a place: bytes are counted from 0, lines and columns from 1
abbrev pub place_json : List ℕ → ℕ → Data
place_json source at =
    object (member (codes "column") (count (column_of source at)) (member (codes "line") (count (line_of source at))
    (member (codes "offset") (count at) no_members)))

-- the place of the first byte, and the place behind the last
abbrev pub span_json : List ℕ → Span → Data
span_json source span =
    object (member (codes "end") (place_json source span.end) (member (codes "start")
    (place_json source span.start) no_members))

abbrev pub label_json : List ℕ → List ℕ → Span → Data
label_json source message span =
    object (member (codes "message") (string message) (member (codes "span") (span_json source span) no_members))

-- a call of a circle
abbrev pub call_json : List ℕ → Span → Data
call_json source called = label_json source (quoted source called ++ codes " is called here") called

-- what is said beside the carets, each with its own place
abbrev pub labels_json : List ℕ → Diagnostic → Data
labels_json source d = told d.detail
  where
    told : Detail → Data
    told detail.Nothing = list []
    told (detail.Bytes n) = list (label_json source (decimal n ++ codes " bytes") d.span ∷ [])
    told (detail.OpenBrace at) = list (label_json source (codes "this `{` is open") (span_from at 1) ∷ [])
    told (detail.Earlier span) = list (label_json source (codes "first declared here") span ∷ [])
    told (detail.Type t) = list (label_json source (typed_text source t) t.span ∷ [])
    told (detail.Types a b) =
        list (label_json source (typed_text source a) a.span ∷ label_json source (typed_text source b) b.span ∷ [])
    told (detail.Limit l) = list (label_json source (words_of l) d.span ∷ [])
    told (detail.Counts c) = list (label_json source (counts_text source c) c.procedure ∷ [])
    told (detail.Circle calls) = list (map (call_json source) calls.items)
    told (detail.Expected kinds) = list (label_json source (kinds_text kinds.items) d.span ∷ [])

abbrev pub diagnostic_json : List ℕ → Diagnostic → Data
diagnostic_json source d =
    object (member (codes "code") (count (number_of d.mistake)) (member (codes "labels") (labels_json source d)
    (member (codes "message") (string (title_of d.mistake))
    (member (codes "notes") (list (string (wanted source d) ∷ []))
    (member (codes "severity") (string (codes "error")) (member (codes "span") (span_json source d.span)
    no_members))))))
