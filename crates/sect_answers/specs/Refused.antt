-- A refusal as a document. `refusal_document` cites it.
use Rattle.std.specs.Prelude.{◌≡◌, ⊤, ℕ, List, [], ◌∷◌, Option, Some, None, codes}
use Rattle.serde_json.specs.Data.{Data, string, object, put}
use Rattle.sect_front.specs.{Front.{line_of}, declared.parsing.FrontFault.{FrontFault}}
use Rattle.sect_types.specs.declared.rules.rule.TypeFault.{TypeFault}
use Rattle.sect_names.specs.declared.fault.SchemeFault.{SchemeFault}
use Rattle.sect_infer.specs.declared.workers.InferFault.{InferFault}
use Rattle.sect_serial.specs.declared.whole.SerialFault.{SerialFault}
use Rattle.sect_serial.specs.declared.exploring.OutcomesFault.{OutcomesFault}
use Rattle.sect_world.specs.declared.turned.WorldFault.{WorldFault}
use Rattle.sect_places.specs.Positions.{column_of}
use Rattle.sect_lint.specs.{declared.diagnostic.Diagnostic.{Diagnostic}, Reports.{IsRefusedFor}}
use Rattle.sect_json.specs.Values.{count, members, record_of, document_text}
use Rattle.sect_answers.specs.{Placing.{HasNoMistake}, Refusals.{no_memory}, declared.refusal.Refusal.{Refusal}}
use Rattle.sect_front.specs.declared.parsing.FrontFault.TheVariants as front
use Rattle.sect_types.specs.declared.rules.rule.TypeFault.TheVariants as types
use Rattle.sect_names.specs.declared.fault.SchemeFault.TheVariants as scheme
use Rattle.sect_names.specs.declared.refusal.SourceRefusal as source
use Rattle.sect_names.specs.declared.refusal.SourceRefusal.TheVariants as source_refusal
use Rattle.sect_infer.specs.declared.workers.InferFault.TheVariants as infer
use Rattle.sect_serial.specs.declared.whole.SerialFault.TheVariants as serial
use Rattle.sect_serial.specs.declared.exploring.OutcomesFault.TheVariants as outcomes
use Rattle.sect_world.specs.declared.turned.WorldFault.TheVariants as world
use Rattle.sect_answers.specs.declared.refusal.Refusal.TheVariants as refusal

-- a refusal of this number and name
abbrev pub bare_json : ℕ → List ℕ → Data
bare_json code name = record_of ((codes "code", count code) ∷ (codes "name", string name) ∷ [])

-- and what it tells under a key; members stand in the order of their names
abbrev pub keyed_json : ℕ → List ℕ → List ℕ → ℕ → Data
keyed_json code name key n = object (put key (count n)
    (members ((codes "code", count code) ∷ (codes "name", string name) ∷ [])))

-- what stands for a refusal for want of memory, which is never printed
abbrev pub memory_json : Data
memory_json = string no_memory

-- a line of the text is counted from 1
abbrev pub front_json : FrontFault → Data
front_json front.Memory = memory_json
front_json (front.BadByte line) = keyed_json 1 (codes "BadByte") (codes "line") line
front_json (front.BadNumber line) = keyed_json 2 (codes "BadNumber") (codes "line") line
front_json (front.LongName line) = keyed_json 3 (codes "LongName") (codes "line") line
front_json (front.Unexpected line) = keyed_json 4 (codes "Unexpected") (codes "line") line
front_json (front.UnexpectedEnd line) = keyed_json 5 (codes "UnexpectedEnd") (codes "line") line
front_json (front.TooDeep line) = keyed_json 6 (codes "TooDeep") (codes "line") line
front_json front.TooLarge = keyed_json 7 (codes "TooLarge") (codes "line") 1

-- an item is counted from 0
abbrev pub type_json : TypeFault → Data
type_json types.Memory = memory_json
type_json (types.Unknown item) = keyed_json 10 (codes "Unknown") (codes "item") item
type_json (types.Twice item) = keyed_json 11 (codes "Twice") (codes "item") item
type_json (types.WrongType item) = keyed_json 12 (codes "WrongType") (codes "item") item
type_json (types.SharedOutside item) = keyed_json 13 (codes "SharedOutside") (codes "item") item
type_json (types.Nested item) = keyed_json 14 (codes "Nested") (codes "item") item
type_json (types.TooMany item) = keyed_json 15 (codes "TooMany") (codes "item") item
type_json (types.Recursion item) = keyed_json 16 (codes "Recursion") (codes "item") item
type_json (types.Arguments item) = keyed_json 17 (codes "Arguments") (codes "item") item

abbrev pub scheme_json : SchemeFault → Data
scheme_json scheme.Memory = memory_json
scheme_json scheme.BadK = bare_json 60 (codes "BadK")
scheme_json (scheme.NoSuchGlobal number) = keyed_json 20 (codes "NoSuchGlobal") (codes "record") number
scheme_json (scheme.GuardIsGuarded number) = keyed_json 21 (codes "GuardIsGuarded") (codes "record") number
scheme_json (scheme.HintTwice number) = keyed_json 22 (codes "HintTwice") (codes "record") number

abbrev pub source_json : source.SourceRefusal → Data
source_json source_refusal.Memory = memory_json
source_json (source_refusal.Front why) = front_json why
source_json (source_refusal.Types why) = type_json why
source_json (source_refusal.Scheme why) = scheme_json why

abbrev pub workers_json : InferFault → Data
workers_json infer.BadWorkers = bare_json 61 (codes "BadWorkers")
workers_json infer.Memory = memory_json

abbrev pub serial_json : SerialFault → Data
serial_json serial.Memory = memory_json
serial_json (serial.NoSection t) = keyed_json 80 (codes "NoSection") (codes "thread") t
serial_json (serial.SectionsLeft t) = keyed_json 81 (codes "SectionsLeft") (codes "thread") t

abbrev pub states_json : OutcomesFault → Data
states_json outcomes.Memory = memory_json
states_json outcomes.TooManyStates = bare_json 90 (codes "TooManyStates")

abbrev pub world_json : WorldFault → Data
world_json (world.NoSuchThread t) = keyed_json 70 (codes "NoSuchThread") (codes "thread") t
world_json world.Memory = memory_json

-- what a refusal says; a report has a form of its own, and of certificates there are no documents
abbrev pub refused_json : Refusal → Option Data
refused_json refusal.Memory = None
refused_json (refusal.Source why) = Some (source_json why)
refused_json (refusal.Report text) = None
refused_json (refusal.Workers why) = Some (workers_json why)
refused_json (refusal.Serial why) = Some (serial_json why)
refused_json (refusal.Outcomes why) = Some (states_json why)
refused_json (refusal.Check why) = None
refused_json (refusal.Schedule why) = Some (world_json why)
refused_json (refusal.Section i) = Some (keyed_json 71 (codes "NoSuchSection") (codes "section") i)

-- a place: bytes are counted from 0, lines and columns from 1
abbrev pub place_json : List ℕ → ℕ → Data
place_json source at = record_of (
    (codes "column", count (column_of source at))
    ∷ (codes "line", count (line_of source at))
    ∷ (codes "offset", count at) ∷ [])

-- this is the place of the mistake for which the text is refused, where it has one
abbrev pub IsMistakePlace : List ℕ → ℕ → Option Data → Type 0
IsMistakePlace source k None = HasNoMistake source k
IsMistakePlace source k (Some place) =
    (d : Diagnostic) × IsRefusedFor source k d × (place ≡ place_json source d.span.start)

-- this is the place that is told with a refusal: of a file where the text itself is refused
abbrev pub IsPlaceTold : Option (List ℕ) → List ℕ → ℕ → Refusal → Option Data → Type 0
IsPlaceTold (Some file) source k (refusal.Source why) place = IsMistakePlace source k place
IsPlaceTold file source k why place = place ≡ None

-- the value of a document: what the refusal says, of which file, and where its mistake stands
abbrev pub refusal_json : Option (List ℕ) → Option Data → Data → Data
refusal_json None place refused = record_of ((codes "refused", refused) ∷ [])
refusal_json (Some file) None refused = record_of ((codes "file", string file) ∷ (codes "refused", refused) ∷ [])
refusal_json (Some file) (Some place) refused = record_of (
    (codes "file", string file) ∷ (codes "place", place) ∷ (codes "refused", refused) ∷ [])

-- the bytes are the document of a refusal, which says this, of the text of this file
abbrev pub IsRefusalDocument : Option (List ℕ) → List ℕ → ℕ → Refusal → Data → List ℕ → Type 0
IsRefusalDocument file source k why refused bytes =
    (place : Option Data) × IsPlaceTold file source k why place
    × (bytes ≡ document_text (refusal_json file place refused))

-- the bytes are that document, or there are none where the refusal has no document
abbrev pub IsToldOf : Option (List ℕ) → List ℕ → ℕ → Refusal → Option Data → Option (List ℕ) → Type 0
IsToldOf file source k why None None = ⊤
IsToldOf file source k why None (Some bytes) = ⊥
IsToldOf file source k why (Some refused) None = ⊥
IsToldOf file source k why (Some refused) (Some bytes) = IsRefusalDocument file source k why refused bytes
