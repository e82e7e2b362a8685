-- What a run answers to its words and its input, and to which stream. `command` cites it.
use Rattle.std.specs.Prelude.{◌≡◌, ◌≢◌, ◌≤◌, ◌⊎◌, ℕ, false, List, [], Option, None, Result, Ok, IfSome}
use Rattle.std.specs.Io.KnownBytes.{Appends}
use Rattle.sect_lsp.specs.{Framing.{front_of}, Sessions.{IsSession}}
use Rattle.sect_lsp.specs.declared.{framing.Front.{Front}, server.Phase.{Phase}}
use Rattle.sect_lsp.specs.declared.framing.Front.TheVariants as front
use Rattle.sect_lsp.specs.declared.server.Phase.TheVariants as phase
use Rattle.sect_command.specs.{Statuses.{wrong_words, failed}, Reporting.{IsReport}, Wanting.{IsWanted}}
use Rattle.sect_command.specs.{declared.failure.Failure.{Failure}, declared.report.Report.{Report}}
use Rattle.sect_command.specs.declared.colours.Screen.{Screen}
use Rattle.sect_command.specs.declared.request.{Asked.{Asked}, Wanted.TheVariants.{Answers, Session}}

-- no name leads to a text whose bytes are known
abbrev pub no_texts : List ℕ → Option (List ℕ)
no_texts name = None

-- the words are wrong, or the report is of what they ask for
abbrev pub IsRightForWords : List (List ℕ) → (List ℕ → Option (List ℕ)) → Screen → Option (List ℕ) → Report → Type 0
IsRightForWords words bytes_of screen input report =
    ((report.status ≡ wrong_words) × (report.complaints.items ≡ []))
    ⊎ ((asked : Asked) × IsWanted words (Answers asked) × IsReport bytes_of screen input asked report)

-- the text of a report is written, its status is given, and these are its complaints
pub record IsWritten (report : Report) (old new : Option (List ℕ)) (status : ℕ) (complaints : List ℕ) : Type 0 where
  pub ends : report.status ≡ status
  pub complains : report.complaints.items ≡ complaints
  pub text : Appends old new report.text.items

-- the run has failed, and no more is said
abbrev pub HasFailed : ℕ → List ℕ → Type 0
HasFailed status complaints = (status ≡ failed) × (complaints ≡ [])

-- a report is written, or the run has failed
abbrev pub IsReportTold : Result Report Failure → Option (List ℕ) → Option (List ℕ) → ℕ → List ℕ → Type 0
IsReportTold told old new status complaints =
    HasFailed status complaints
    ⊎ ((report : Report) × (told ≡ Ok report) × IsWritten report old new status complaints)

-- what ends a session with the status 1: the editor's `exit` came before it was shut down, or what is left of the bytes
-- begins no message, or they end before it was shut down
abbrev pub IsBrokenOff : Phase → Front → Type 0
IsBrokenOff p f =
    (p ≡ phase.Abandoned) ⊎ ((f ≡ front.Malformed) ⊎ ((f ≡ front.Part) × (p ≢ phase.ShutDown)))

-- the bytes are those of a session for which this is written, and which has this status
pub record IsConversation (bytes sent : List ℕ) (status : ℕ) : Type 0 where
  pub session : IsSession bytes sent status
  pub broken_off : status ≡ 1 → IsBrokenOff session.end.phase (front_of session.rest)

-- this is written for an editor, and the status is 0 or 1; where the bytes of the input are known, they are those of a
-- session for which it is written, and which has this status
abbrev pub IsServed : Option (List ℕ) → Option (List ℕ) → Option (List ℕ) → ℕ → Type 0
IsServed input old new status =
    (status ≤ 1) × ((sent : List ℕ) × Appends old new sent × IfSome input (λ bytes. IsConversation bytes sent status))

-- the run has failed; or a report that is right for its words is written, with these complaints to be told; or they ask
-- for a session with an editor, and it was one
abbrev pub IsAnswered : List (List ℕ) → (List ℕ → Option (List ℕ)) → Screen → Option (List ℕ) → Option (List ℕ)
    → Option (List ℕ) → ℕ → List ℕ → Type 0
IsAnswered words bytes_of screen input old new status complaints =
    HasFailed status complaints
    ⊎ (((report : Report) × IsRightForWords words bytes_of screen input report
    × IsWritten report old new status complaints)
    ⊎ (IsWanted words Session × (complaints ≡ []) × IsServed input old new status))

-- streams that nobody looks at
abbrev pub dark : Screen
dark = record { colours = false; hints = false }

-- the same where there are no texts to be named, nobody looks, and no complaints are told
abbrev pub IsTold : List (List ℕ) → Option (List ℕ) → Option (List ℕ) → Option (List ℕ) → ℕ → Type 0
IsTold words input old new status =
    (complaints : List ℕ) × IsAnswered words no_texts dark input old new status complaints

-- the same, where the complaints are written to standard error, unless that fails
pub record IsAnsweredAloud (words : List (List ℕ)) (bytes_of : List ℕ → Option (List ℕ)) (screen : Screen)
    (input old new errors_old errors_new : Option (List ℕ)) (status : ℕ) : Type 0 where
  pub complaints : List ℕ
  pub before : ℕ
  pub answered : IsAnswered words bytes_of screen input old new before complaints
  pub told : (status ≡ failed) ⊎ ((status ≡ before) × Appends errors_old errors_new complaints)
