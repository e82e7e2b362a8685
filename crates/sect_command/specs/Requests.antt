-- What a request is answered of a source text.
use Rattle.std.specs.Prelude.{◌≡◌, ◌≢◌, ◌⊎◌, ◌+◌, ◌++◌, ℕ, Bool, true, false, not, if◌then◌else◌, List, [], ◌∷◌, codes}
use Rattle.std.specs.{Prelude.{⊤, Option, Some, None, option_map, replicate}, Str.{bytes_eq}, String.{string_bytes}}
use Rattle.std.specs.{declared.string.String.{String}, declared.alloc.Global.{Global}}
use Rattle.sect_front.specs.Limits.{most_bytes}
use Rattle.sect_infer.specs.Workers.{AreOffered}
use Rattle.sect_answers.specs.{Answers.{IsAnswer, IsDue}, Charting.{IsCharted}, Checking.{IsValidInput, IsCheckDue}}
use Rattle.sect_answers.specs.Compiling.{IsCertified, IsProgramListing, IsProgramDocument, IsCompileDue}
use Rattle.sect_answers.specs.{Conflicting.{AreProgramConflicts}, Explaining.{IsProgramExplanation}}
use Rattle.sect_answers.specs.{InC.{IsProgramInC}, Naming.{AreMeant, IsNamingDue}}
use Rattle.sect_answers.specs.declared.naming.ThreadWord.{ThreadWord}
use Rattle.sect_answers.specs.{Graphing.{IsProgramGraph, IsGraphDue}, Findings.{IsUnblamed, IsInspection, IsLintDue}}
use Rattle.sect_answers.specs.{Outcomes.{AreAllOutcomes, IsOutcomesDue}, Placing.{AddsPlace}}
use Rattle.sect_answers.specs.Placed.{ArePlacedOutcomes, ArePlacedTurns, IsPlacedChart, IsPlacedOutcomesDue}
use Rattle.sect_answers.specs.Placed.{IsPlacedRun, IsPlacedSerial, IsPlacedSerialDue}
use Rattle.sect_answers.specs.Refusals.{has_report, refusal_text}
use Rattle.sect_answers.specs.Refused.{IsRefusalDocument, refused_json}
use Rattle.sect_answers.specs.{Running.{IsOutcomeOfRun}, Scheduling.{IsScheduled, IsScheduleDue}}
use Rattle.sect_answers.specs.{Serial.{IsOutcome, IsSerialDue}, Verbose.{IsVerboseAnswer}}
use Rattle.sect_answers.specs.declared.refusal.Refusal.{Refusal}
use Rattle.sect_answers.specs.declared.format.Format.TheVariants as format
use Rattle.sect_lint.specs.declared.format.LintFormat.TheVariants.{Json}
use Rattle.serde_json.specs.Data.{Data}
use Rattle.sect_command.specs.{Statuses.{done, refused, wrong_words}, declared.report.Answer.{Answer}}
use Rattle.sect_command.specs.declared.request.Form.TheVariants.{Listing, Document, Certificate}
use Rattle.sect_command.specs.declared.request.{Form.{Form}, Placed.{Placed}, PlacedRun.{PlacedRun}}
use Rattle.sect_command.specs.declared.request.Request.{Request}
use Rattle.sect_command.specs.declared.request.Request.TheVariants.{Locks, Compile, C, Explain, Conflicts, Graph}
use Rattle.sect_command.specs.declared.request.Request.TheVariants.{Inspect, Check, Serial, Outcomes, Schedule, Chart}
use Rattle.sect_command.specs.declared.request.Request.TheVariants.{Run, TimedRun, Lint, Verbose}
use Rattle.sect_command.specs.declared.request.PlacedRun.TheVariants as placed
use Rattle.sect_command.specs.declared.request.Request.TheVariants as asks
use Rattle.sect_answers.specs.declared.naming.ThreadFault.TheVariants as fault
use Rattle.sect_answers.specs.declared.refusal.Refusal.TheVariants as refusal

-- the threads of a run with places, as the words name them
abbrev pub threads_placed : PlacedRun → List ThreadWord
threads_placed (placed.Serial order) = order.items
threads_placed (placed.Schedule schedule) = schedule.threads.items
threads_placed (placed.Chart schedule) = schedule.threads.items
threads_placed of = []

-- the threads of an order or a schedule, as the words name them; of another request none
abbrev pub threads_of : Request → List ThreadWord
threads_of (Serial fuel order format) = order.items
threads_of (Schedule k fuel schedule format) = schedule.threads.items
threads_of (Chart k fuel schedule) = schedule.threads.items
threads_of (asks.Placed p) = threads_placed p.of
threads_of request = []

-- each thread has so many turns, one after another
abbrev pub turns_of : List ℕ → List ℕ → List ℕ
turns_of [] ts = []
turns_of (n ∷ ns) [] = []
turns_of (n ∷ ns) (t ∷ ts) = replicate n t ++ turns_of ns ts

-- where the words of a run with places mean these threads, each as often as it has turns
abbrev pub spread_placed : PlacedRun → List ℕ → List ℕ
spread_placed (placed.Schedule schedule) ts = turns_of schedule.counts.items ts
spread_placed (placed.Chart schedule) ts = turns_of schedule.counts.items ts
spread_placed of ts = ts

-- where the words of a request mean these threads, each as often as it has turns
abbrev pub spread_by : Request → List ℕ → List ℕ
spread_by (Schedule k fuel schedule format) ts = turns_of schedule.counts.items ts
spread_by (Chart k fuel schedule) ts = turns_of schedule.counts.items ts
spread_by (asks.Placed p) ts = spread_placed p.of ts
spread_by request ts = ts

-- the words of the request name threads, in an order
abbrev pub is_ordered : Request → Bool
is_ordered (Serial fuel order format) = true
is_ordered (Schedule k fuel schedule format) = true
is_ordered (Chart k fuel schedule) = true
is_ordered request = false

-- the answer to the request is a list of warnings
abbrev pub is_linting : Request → Bool
is_linting (Lint k format rulings) = true
is_linting request = false

-- the answer to the request goes by the text alone, is no list of warnings, and tells no places of faults
abbrev pub is_plain : Request → Bool
is_plain (asks.Placed p) = false
is_plain (Lint k format rulings) = false
is_plain request = not (is_ordered request)

-- the words of the request mean these threads, each as often as it has turns
abbrev pub AreMeantBy : List ℕ → Request → List ℕ → Type 0
AreMeantBy source request threads =
    (named : List ℕ) × AreMeant source (threads_of request) named × (threads ≡ spread_by request named)

-- the name that stands for standard input
abbrev pub input_name : List ℕ
input_name = codes "-"

-- the file of the text of a name
abbrev pub file_of : List ℕ → Option (List ℕ)
file_of name = if bytes_eq name input_name then None else Some name

-- the bytes are the compiled program of the source, in this form
abbrev pub IsCompiledIn : Form → List ℕ → ℕ → List ℕ → Type 0
IsCompiledIn Listing source k bytes = IsProgramListing source k bytes
IsCompiledIn Document source k bytes = IsProgramDocument source k bytes
IsCompiledIn Certificate source k bytes = IsCertified source k bytes

-- the bytes are what is requested of the source of this name, where these are the threads that the words mean
abbrev pub AnswersPlaced : List ℕ → List ℕ → Placed → List ℕ → PlacedRun → List ℕ → Type 0
AnswersPlaced name source p threads (placed.Serial order) bytes =
    IsPlacedSerial (file_of name) source p.k p.fuel threads bytes
AnswersPlaced name source p threads (placed.Outcomes most) bytes =
    ArePlacedOutcomes (file_of name) source p.k p.fuel most bytes
AnswersPlaced name source p threads (placed.Schedule schedule) bytes =
    ArePlacedTurns (file_of name) source p.k p.fuel threads bytes
AnswersPlaced name source p threads (placed.Chart schedule) bytes =
    IsPlacedChart (file_of name) source p.k p.fuel threads bytes
AnswersPlaced name source p threads placed.Run bytes = IsPlacedRun (file_of name) source p.k p.fuel bytes
AnswersPlaced name source p threads placed.TimedRun bytes = IsPlacedRun (file_of name) source p.k p.fuel bytes

-- the bytes are what is requested of the source of this name, where that is no list of warnings
abbrev pub Answers : List ℕ → Request → List ℕ → List ℕ → Type 0
Answers name (Locks k format) source bytes = IsAnswer source k format bytes
Answers name (Compile k workers form) source bytes = AreOffered workers × IsCompiledIn form source k bytes
Answers name (C k) source bytes = IsProgramInC source k bytes
Answers name (Explain k format) source bytes = IsProgramExplanation source k format bytes
Answers name (Conflicts k format) source bytes = AreProgramConflicts source k format bytes
Answers name (Verbose k of) source bytes = IsVerboseAnswer (file_of name) source k of bytes
Answers name (Serial fuel order format) source bytes =
    (threads : List ℕ) × AreMeantBy source (Serial fuel order format) threads
    × IsOutcome source fuel threads format bytes
Answers name (Outcomes fuel most format) source bytes = AreAllOutcomes source fuel most format bytes
Answers name (Schedule k fuel schedule format) source bytes =
    (threads : List ℕ) × AreMeantBy source (Schedule k fuel schedule format) threads
    × IsScheduled source k fuel threads format bytes
Answers name (Chart k fuel schedule) source bytes =
    (threads : List ℕ) × AreMeantBy source (Chart k fuel schedule) threads × IsCharted source k fuel threads bytes
Answers name (Run k fuel format) source bytes = IsOutcomeOfRun source k fuel format bytes
Answers name (TimedRun k fuel format) source bytes = IsOutcomeOfRun source k fuel format bytes
Answers name (asks.Placed p) source bytes =
    (threads : List ℕ) × AreMeantBy source (asks.Placed p) threads × AnswersPlaced name source p threads p.of bytes
Answers name (Graph k section) source bytes = IsProgramGraph source k section bytes
Answers name (Lint k format rulings) source bytes = ⊥
Answers name (Inspect k) source bytes = IsInspection source k bytes
Answers name (Check k) source bytes = IsValidInput source k × (bytes ≡ codes "valid\n")

-- the refusal is due where this is requested of a source, and these are the threads that the words mean
abbrev pub IsPlacedDue : List ℕ → Placed → List ℕ → PlacedRun → Refusal → Type 0
IsPlacedDue source p threads (placed.Serial order) why = IsPlacedSerialDue source p.k p.fuel threads why
IsPlacedDue source p threads (placed.Outcomes most) why = IsPlacedOutcomesDue source p.k p.fuel most why
IsPlacedDue source p threads (placed.Schedule schedule) why = IsScheduleDue source p.k threads why
IsPlacedDue source p threads (placed.Chart schedule) why = IsScheduleDue source p.k threads why
IsPlacedDue source p threads placed.Run why = IsDue source p.k why
IsPlacedDue source p threads placed.TimedRun why = IsDue source p.k why

-- the refusal is due where this is requested of the source of this name
abbrev pub IsRefusalDue : List ℕ → Request → List ℕ → Refusal → Type 0
IsRefusalDue name (Locks k format) source why = IsDue source k why
IsRefusalDue name (Compile k workers form) source why = IsCompileDue source k workers why
IsRefusalDue name (C k) source why = IsDue source k why
IsRefusalDue name (Explain k format) source why = IsDue source k why
IsRefusalDue name (Conflicts k format) source why = IsDue source k why
IsRefusalDue name (Verbose k of) source why = IsDue source k why
IsRefusalDue name (Serial fuel order format) source why =
    (threads : List ℕ) × AreMeantBy source (Serial fuel order format) threads × IsSerialDue source fuel threads why
IsRefusalDue name (Outcomes fuel most format) source why = IsOutcomesDue source fuel most why
IsRefusalDue name (Schedule k fuel schedule format) source why =
    (threads : List ℕ) × AreMeantBy source (Schedule k fuel schedule format) threads
    × IsScheduleDue source k threads why
IsRefusalDue name (Chart k fuel schedule) source why =
    (threads : List ℕ) × AreMeantBy source (Chart k fuel schedule) threads × IsScheduleDue source k threads why
IsRefusalDue name (Run k fuel format) source why = IsDue source k why
IsRefusalDue name (TimedRun k fuel format) source why = IsDue source k why
IsRefusalDue name (asks.Placed p) source why =
    (threads : List ℕ) × AreMeantBy source (asks.Placed p) threads × IsPlacedDue source p threads p.of why
IsRefusalDue name (Graph k section) source why = IsGraphDue source k section why
IsRefusalDue name (Lint k format rulings) source why = IsLintDue (file_of name) source k format why
IsRefusalDue name (Inspect k) source why = IsLintDue None source k Json why
IsRefusalDue name (Check k) source why = IsCheckDue source k why

-- what is written for a refusal
abbrev pub line_of : Refusal → List ℕ
line_of why = refusal_text why ++ codes "\n"

-- whether the name of a text stands before the line of its refusal: that of a file does, but for a report, which has
-- lines of its own
abbrev pub is_marked : List ℕ → Refusal → Bool
is_marked name (refusal.Report text) = false
is_marked name why = not (bytes_eq name input_name)

-- of at most how many fields paths are, where the text is judged; what a serial run goes by doesn't depend on it
abbrev pub path_length_of : Request → ℕ
path_length_of (Locks k format) = k
path_length_of (Compile k workers form) = k
path_length_of (C k) = k
path_length_of (Explain k format) = k
path_length_of (Conflicts k format) = k
path_length_of (Verbose k of) = k
path_length_of (Serial fuel order format) = 2
path_length_of (Outcomes fuel most format) = 2
path_length_of (Schedule k fuel schedule format) = k
path_length_of (Chart k fuel schedule) = k
path_length_of (Run k fuel format) = k
path_length_of (TimedRun k fuel format) = k
path_length_of (asks.Placed p) = p.k
path_length_of (Graph k section) = k
path_length_of (Lint k format rulings) = k
path_length_of (Inspect k) = k
path_length_of (Check k) = k

-- how many bytes of a text are looked at: one more than an accepted text may have, by which a longer one is seen to be
-- too large; a certificate with the source behind it may have any number
abbrev pub most_kept_of : Request → ℕ
most_kept_of (Check k) = 18446744073709551615
most_kept_of request = 1 + most_bytes

-- where the text itself is refused, the place of its mistake is added to these bytes
abbrev pub AddsPlaceOf : Request → List ℕ → Refusal → List ℕ → List ℕ → Type 0
AddsPlaceOf request source (refusal.Source why) old new = AddsPlace source (path_length_of request) old new
AddsPlaceOf request source why old new = new ≡ old

-- the name of a text, and where its mistake stands
abbrev pub IsMark : List ℕ → Request → List ℕ → Refusal → List ℕ → Type 0
IsMark name request source why mark =
    (placed : List ℕ) × AddsPlaceOf request source why name placed × (mark ≡ placed ++ codes ": ")

-- this is written for a refusal of the text of this name, behind a mark where it has one
abbrev pub IsMarkedLine : Bool → List ℕ → Request → List ℕ → Refusal → List ℕ → Type 0
IsMarkedLine false name request source why line = line ≡ line_of why
IsMarkedLine true name request source why line =
    (mark : List ℕ) × IsMark name request source why mark × (line ≡ mark ++ line_of why)

abbrev pub IsLineFor : List ℕ → Request → List ℕ → Refusal → List ℕ → Type 0
IsLineFor name request source why = IsMarkedLine (is_marked name why) name request source why

-- the answer to the request is a document, and a refusal too; `lint` has forms of its own for what it says of a text
abbrev pub asks_document : Request → Bool
asks_document (Locks k format.Json) = true
asks_document (Compile k workers Document) = true
asks_document (Explain k format.Json) = true
asks_document (Conflicts k format.Json) = true
asks_document (Inspect k) = true
asks_document (Serial fuel order format.Json) = true
asks_document (Outcomes fuel most format.Json) = true
asks_document (Schedule k fuel schedule format.Json) = true
asks_document (Run k fuel format.Json) = true
asks_document (TimedRun k fuel format.Json) = true
asks_document request = false

-- this is written for a refusal of the text of this name: a document that says this, or the line
abbrev pub IsWrittenAs : Option Data → List ℕ → Request → List ℕ → Refusal → List ℕ → Type 0
IsWrittenAs None name request source why written = IsLineFor name request source why written
IsWrittenAs (Some refused) name request source why written =
    IsRefusalDocument (file_of name) source (path_length_of request) why refused written

-- where documents are asked for it is the document, if the refusal has one
abbrev pub IsWrittenFor : List ℕ → Request → List ℕ → Refusal → List ℕ → Type 0
IsWrittenFor name request source why =
    IsWrittenAs (if asks_document request then refused_json why else None) name request source why

-- what may be said on standard error of a run with places
abbrev pub MayRemarkPlaced : PlacedRun → List ℕ → Type 0
MayRemarkPlaced placed.TimedRun remarks = ⊤
MayRemarkPlaced of remarks = remarks ≡ []

-- what may be said on standard error of an answer: what a run took, where that is asked for, and else nothing
abbrev pub MayRemark : Request → List ℕ → Type 0
MayRemark (TimedRun k fuel format) remarks = ⊤
MayRemark (asks.Placed p) remarks = MayRemarkPlaced p.of remarks
MayRemark request remarks = remarks ≡ []

-- the status behind warnings, where the text is refused for one of them or for none
abbrev pub warned_status : Bool → ℕ
warned_status false = done
warned_status true = refused

-- the answer is the warnings that are told of the source of this name
abbrev pub IsLinted : List ℕ → Request → List ℕ → Answer → Type 0
IsLinted name (Lint k format rulings) source answer =
    (denied : Bool) × IsUnblamed (file_of name) source k format rulings.items answer.text.items denied
    × (answer.status ≡ warned_status denied)
IsLinted name request source answer = ⊥

-- the answer is what is requested of the source of this name
pub record IsDone (name : List ℕ) (request : Request) (source : List ℕ) (answer : Answer) : Type 0 where
  pub answered : ((answer.status ≡ done) × Answers name request source answer.text.items)
      ⊎ IsLinted name request source answer
  pub remarks : MayRemark request answer.remarks.items
  pub linted : answer.is_linted ≡ false

-- the answer is what is written for a refusal that is due, of the source of this name
pub record IsRefused (name : List ℕ) (request : Request) (source : List ℕ) (answer : Answer) : Type 0 where
  pub why : Refusal
  pub told : why ≢ refusal.Memory
  pub due : IsRefusalDue name request source why
  pub status : answer.status ≡ refused
  pub written : IsWrittenFor name request source why answer.text.items
  pub remarks : answer.remarks.items ≡ []
  pub linted : answer.is_linted ≡ has_report why

-- the name of a thread in place of one that is near it
abbrev pub near_text : List ℕ → List ℕ
near_text near = codes "did you mean `" ++ near ++ codes "`?"

-- what is wanted in the place of the name of no thread
abbrev pub wanted_text : Option (List ℕ) → List ℕ
wanted_text (Some near) = near_text near
wanted_text None = codes "a number from 0 to 65535 or a thread's name is wanted"

-- no thread has this name
abbrev pub unknown_text : List ℕ → Option (List ℕ) → List ℕ
unknown_text name near = codes "error: unknown thread '" ++ name ++ codes "': " ++ wanted_text near ++ codes "\n"

-- what is written where the words name a thread that the source doesn't have
abbrev pub IsUnknownLine : Request → List ℕ → List ℕ → Type 0
IsUnknownLine request source line =
    (name : String Global) × (near : Option (String Global))
    × IsNamingDue source (threads_of request) (fault.Unknown name near)
    × (line ≡ unknown_text (string_bytes name) (option_map string_bytes near))

-- the answer is that the words name a thread that the source doesn't have
pub record NamesNoThread (request : Request) (source : List ℕ) (answer : Answer) : Type 0 where
  pub status : answer.status ≡ wrong_words
  pub line : IsUnknownLine request source answer.text.items
  pub remarks : answer.remarks.items ≡ []
  pub linted : answer.is_linted ≡ false

abbrev pub IsRightFor : List ℕ → Request → List ℕ → Answer → Type 0
IsRightFor name request source answer =
    IsDone name request source answer
    ⊎ (IsRefused name request source answer ⊎ NamesNoThread request source answer)
