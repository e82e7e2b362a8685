-- A diagnostic as a log of SARIF 2.1.0, which code hosts and editors read.
use Rattle.std.specs.{Prelude.{ℕ, ◌-◌, List, [], ◌∷◌, ◌++◌, codes, map}, Fmt.{decimal}}
use Rattle.serde_json.specs.Data.{Data, string, object, no_members, member}
use Rattle.sect_front.specs.{Front.{line_of}, declared.span.Span.{Span}, FaultPlaces.{span_from}}
use Rattle.sect_characters.specs.Characters.{whole, character_column}
use Rattle.sect_places.specs.{Positions.{position}, declared.position.Position.{Position}}
use Rattle.sect_lint.specs.{declared.diagnostic.Detail.{Detail}, declared.diagnostic.Diagnostic.{Diagnostic}}
use Rattle.sect_lint.specs.{declared.mistake.Mistake.{Mistake}, Mistakes.{number_of, title_of, note_of}}
use Rattle.sect_lint.specs.{Limits.{words_of}, Kinds.{kinds_text}, Labels.{quoted, typed_text, types_text, counts_text}}
use Rattle.sect_lint.specs.{Json.{count, list}, Advised.{advice_of, advised}}
use Rattle.sect_lint.specs.declared.diagnostic.Detail.TheVariants as detail

abbrev pub text_json : List ℕ → Data
text_json text = object (member (codes "text") (string text) no_members)

-- the bytes, lines and columns of a span, which is from one position to another
abbrev pub region : Span → Position → Position → Data
region span start end =
    object (member (codes "byteLength") (count (span.end - span.start)) (member (codes "byteOffset") (count span.start)
    (member (codes "endColumn") (count end.column) (member (codes "endLine") (count end.line)
    (member (codes "startColumn") (count start.column) (member (codes "startLine") (count start.line) no_members))))))

-- of tokens: before one there is ASCII alone on its line, so its column in bytes is that in characters
abbrev pub region_json : List ℕ → Span → Data
region_json source span = region span (position source span.start) (position source span.end)

-- the line and the column of a place, in characters
abbrev pub point : List ℕ → ℕ → Position
point source at = record { line = line_of source at; column = character_column source at }

-- of some bytes, wherever they stand: the characters of which they have a part
abbrev pub point_region : List ℕ → Span → Data
point_region source span =
    region (whole source span) (point source (whole source span).start) (point source (whole source span).end)

-- a region of the text of this URI
abbrev pub physical_json : List ℕ → Data → Data
physical_json uri place =
    object (member (codes "artifactLocation") (object (member (codes "uri") (string uri) no_members))
    (member (codes "region") place no_members))

abbrev pub located_json : List ℕ → Data → Data
located_json uri place = object (member (codes "physicalLocation") (physical_json uri place) no_members)

-- a span of tokens
abbrev pub location_json : List ℕ → List ℕ → Span → Data
location_json uri source span = located_json uri (region_json source span)

-- what is said of another place
abbrev pub related_json : List ℕ → List ℕ → List ℕ → Span → Data
related_json uri source message span =
    object (member (codes "message") (text_json message) (member (codes "physicalLocation")
    (physical_json uri (region_json source span)) no_members))

-- a call of a circle
abbrev pub related_call : List ℕ → List ℕ → Span → Data
related_call uri source called = related_json uri source (quoted source called ++ codes " is called here") called

-- the places beside that of the mistake
abbrev pub related_by : List ℕ → List ℕ → Detail → List Data
related_by uri source (detail.OpenBrace at) = related_json uri source (codes "this `{` is open") (span_from at 1) ∷ []
related_by uri source (detail.Earlier span) = related_json uri source (codes "first declared here") span ∷ []
related_by uri source (detail.Circle calls) = map (related_call uri source) calls.items
related_by uri source _ = []

-- what is said beside the carets, where it has no place of its own
abbrev pub aside_by : List ℕ → Detail → List ℕ
aside_by source detail.Nothing = []
aside_by source (detail.Bytes n) = codes ": " ++ decimal n ++ codes " bytes"
aside_by source (detail.OpenBrace at) = []
aside_by source (detail.Earlier span) = []
aside_by source (detail.Type t) = codes ": " ++ typed_text source t
aside_by source (detail.Types a b) = codes ": " ++ types_text source a b
aside_by source (detail.Limit l) = codes ": " ++ words_of l
aside_by source (detail.Counts c) = codes ": " ++ counts_text source c
aside_by source (detail.Circle calls) = []
aside_by source (detail.Expected kinds) = codes ": " ++ kinds_text kinds.items

-- what is wrong, and what is said beside it
abbrev pub said_by : List ℕ → Diagnostic → List ℕ
said_by source d = title_of d.mistake ++ aside_by source d.detail

abbrev pub result_json : List ℕ → List ℕ → Diagnostic → Data
result_json uri source d =
    object (member (codes "level") (string (codes "error"))
    (member (codes "locations") (list (located_json uri (point_region source d.span) ∷ []))
    (member (codes "message") (text_json (said_by source d ++ advised (advice_of source d)))
    (member (codes "relatedLocations") (list (related_by uri source d.detail))
    (member (codes "ruleId") (string (decimal (number_of d.mistake))) no_members)))))

abbrev pub rule_json : Mistake → Data
rule_json m =
    object (member (codes "help") (text_json (note_of m)) (member (codes "id") (string (decimal (number_of m)))
    (member (codes "shortDescription") (text_json (title_of m)) no_members)))

-- the program that looked, with these rules
abbrev pub tool_json : Data → Data
tool_json rules =
    object (member (codes "driver")
    (object (member (codes "name") (string (codes "sectc")) (member (codes "rules") rules no_members))) no_members)

-- a run that has these results
abbrev pub run_json : Data → Data → Data
run_json results tool =
    object (member (codes "columnKind") (string (codes "unicodeCodePoints")) (member (codes "results") results
    (member (codes "tool") tool no_members)))

-- the log of one run
abbrev pub log_json : Data → Data
log_json run =
    object (member (codes "$schema") (string (codes "https://json.schemastore.org/sarif-2.1.0.json"))
    (member (codes "runs") (list (run ∷ [])) (member (codes "version") (string (codes "2.1.0")) no_members)))

abbrev pub diagnostic_log : List ℕ → List ℕ → Diagnostic → Data
diagnostic_log uri source d =
    log_json (run_json (list (result_json uri source d ∷ [])) (tool_json (list (rule_json d.mistake ∷ []))))

abbrev pub empty_log : Data
empty_log = log_json (run_json (list []) (tool_json (list [])))
