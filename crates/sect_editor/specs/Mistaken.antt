-- The mistake of a text that is refused, as an editor shows it.
use Rattle.std.specs.Prelude.{◌≡◌, ℕ, List, [], ◌∷◌, ◌++◌, map, codes}
use Rattle.serde_json.specs.Data.{Data, string, object, no_members, member}
use Rattle.sect_front.specs.{FaultPlaces.{span_from}, declared.span.Span.{Span}}
use Rattle.sect_lint.specs.{declared.diagnostic.Detail.{Detail}, declared.diagnostic.Diagnostic.{Diagnostic}}
use Rattle.sect_lint.specs.{Mistakes.{number_of}, Labels.{quoted}, Sarif.{said_by}, Advised.{wanted}}
use Rattle.sect_lint.specs.Reports.{IsRefusedFor}
use Rattle.sect_editor.specs.{Ranges.{count, list, characters_json, location_json}}
use Rattle.sect_editor.specs.declared.position.Encoding.{Encoding}
use Rattle.sect_lint.specs.declared.diagnostic.Detail.TheVariants as detail

-- another place of the document, and what is said of it
abbrev pub related_json : List ℕ → List ℕ → List ℕ → Span → Data
related_json uri source message span =
    object (member (codes "location") (location_json uri source span) (member (codes "message") (string message)
    no_members))

-- a call of a circle
abbrev pub related_call : List ℕ → List ℕ → Span → Data
related_call uri source called = related_json uri source (quoted source called ++ codes " is called here") called

-- the places beside that of a mistake
abbrev pub related_by : List ℕ → List ℕ → Detail → List Data
related_by uri source (detail.OpenBrace at) = related_json uri source (codes "this `{` is open") (span_from at 1) ∷ []
related_by uri source (detail.Earlier span) = related_json uri source (codes "first declared here") span ∷ []
related_by uri source (detail.Circle calls) = map (related_call uri source) calls.items
related_by uri source _ = []

-- what is wrong and what is said beside it, and on the next line what is wanted
abbrev pub message_of : List ℕ → Diagnostic → List ℕ
message_of source d = said_by source d ++ codes "\n" ++ wanted source d

-- the mistake of a text that is refused, an error
abbrev pub mistake_json : Encoding → List ℕ → List ℕ → Diagnostic → Data
mistake_json encoding uri source d =
    object (member (codes "code") (count (number_of d.mistake)) (member (codes "message") (string (message_of source d))
    (member (codes "range") (characters_json encoding source d.span)
    (member (codes "relatedInformation") (list (related_by uri source d.detail))
    (member (codes "severity") (count 1) (member (codes "source") (string (codes "sectc")) no_members))))))

-- the mistake for which a text is refused
abbrev pub IsMistake : Encoding → List ℕ → List ℕ → ℕ → Data → Type 0
IsMistake encoding uri source k value =
    (d : Diagnostic) × IsRefusedFor source k d × (value ≡ list (mistake_json encoding uri source d ∷ []))
