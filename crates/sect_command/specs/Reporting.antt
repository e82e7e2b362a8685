-- What is reported of the texts of which a request is asked, one after another.
use Rattle.std.specs.Prelude.{◌≡◌, ◌≢◌, ◌⊎◌, ◌++◌, ◌∷◌, ◌&&◌, not, ℕ, Bool, true, false, max, List, [], Option, IfSome}
use Rattle.std.specs.Prelude.{codes, map, length, nat_lt, take, if◌then◌else◌}
use Rattle.std.specs.{String.{string_bytes}}
use Rattle.sect_lemmas.specs.Lists.{Has}
use Rattle.sect_answers.specs.declared.format.Format.TheVariants as format
use Rattle.sect_lint.specs.declared.format.LintFormat.TheVariants as lint_format
use Rattle.sect_command.specs.{Statuses.{done, failed}, Requests.{IsRightFor, input_name, most_kept_of}}
use Rattle.sect_command.specs.{Colouring.{is_painted, kind_of, shown_as}, declared.colours.Screen.{Screen}}
use Rattle.sect_command.specs.{declared.report.Answer.{Answer}, declared.report.Report.{Report}}
use Rattle.sect_command.specs.{declared.request.Asked.{Asked}, declared.request.Request.{Request}}
use Rattle.sect_command.specs.declared.request.Request.TheVariants.{Locks, Conflicts, Lint}

-- the names, or standard input alone where there are none
abbrev pub or_input : List (List ℕ) → List (List ℕ)
or_input [] = input_name ∷ []
or_input (name ∷ names) = name ∷ names

-- the names of the texts of which a request is asked, in order
abbrev pub names_of : Asked → List (List ℕ)
names_of asked = or_input (map string_bytes asked.files.items)

-- the answer is a document, which says itself of what it is
abbrev pub is_document : Request → Bool
is_document (Locks k format.Json) = true
is_document (Conflicts k format.Json) = true
is_document (Lint k lint_format.Json rulings) = true
is_document (Lint k lint_format.Sarif rulings) = true
is_document request = false

-- each answer stands below the name of its text, where there are several texts, and the answers are no documents
abbrev pub has_headings : Asked → Bool
has_headings asked = nat_lt 1 (length asked.files.items) && not (is_document asked.request)

-- the empty line before a heading that others stand before
abbrev pub gap : List ℕ → List ℕ
gap [] = []
gap (byte ∷ text) = codes "\n"

-- the heading of a text behind others
abbrev pub heading : List ℕ → List ℕ → List ℕ
heading before name = gap before ++ codes "==> " ++ name ++ codes " <==\n"

-- nothing is reported
pub record IsEmpty (r : Report) : Type 0 where
  pub status : r.status ≡ done
  pub text : r.text.items ≡ []
  pub complaints : r.complaints.items ≡ []

-- what is said behind a refusal of which `lint` says more
abbrev pub hint_text : Bool → List ℕ
hint_text false = []
hint_text true = codes "sectc lint says where and why\n"

-- an answer as it is shown: painted, if it is to be
abbrev pub shown_text : Screen → Asked → List ℕ → List ℕ
shown_text screen asked text = shown_as (is_painted asked.colour screen) (kind_of asked.request) text

-- what is said on standard error of an answer, and to somebody who reads there where more is said
abbrev pub said_of : Screen → Answer → List ℕ
said_of screen answer = answer.remarks.items ++ hint_text (screen.hints && answer.is_linted)

-- an answer is added, and nothing above it
pub record AddsShown (screen : Screen) (asked : Asked) (answer : Answer) (before after : Report) : Type 0 where
  pub text : after.text.items ≡ before.text.items ++ shown_text screen asked answer.text.items
  pub status : after.status ≡ max before.status answer.status
  pub complaints : after.complaints.items ≡ before.complaints.items ++ said_of screen answer

-- the answer to a text of this name is added
pub record AddsAnswer (screen : Screen) (asked : Asked) (name : List ℕ) (answer : Answer) (before after : Report)
    : Type 0 where
  pub text : after.text.items ≡ before.text.items
      ++ (if has_headings asked then heading before.text.items name else [])
      ++ shown_text screen asked answer.text.items
  pub status : after.status ≡ max before.status answer.status
  pub complaints : after.complaints.items ≡ before.complaints.items ++ said_of screen answer

-- it is added that the text of this name can't be read, and why
pub record AddsComplaint (name : List ℕ) (before after : Report) : Type 0 where
  pub reason : List ℕ
  pub complaints : after.complaints.items ≡ before.complaints.items ++ name ++ codes ": " ++ reason ++ codes "\n"
  pub status : after.status ≡ failed
  pub text : after.text.items ≡ before.text.items

-- the right answer to this text is added
abbrev pub AddsRight : Screen → Asked → List ℕ → List ℕ → Report → Report → Type 0
AddsRight screen asked name source before after =
    (answer : Answer) × IsRightFor name asked.request source answer
    × AddsAnswer screen asked name answer before after

-- the bytes are known, and this is as much of them as is looked at, or they aren't known
abbrev pub IsKeptOf : Asked → Option (List ℕ) → List ℕ → Type 0
IsKeptOf asked known text = IfSome known (λ bytes. text ≡ take (most_kept_of asked.request) bytes)

-- what is reported of the text of a name: the right answer to standard input, or to the text that the name leads to, as
-- far as it is looked at and its bytes are known, or that it can't be read
abbrev pub AddsText : (List ℕ → Option (List ℕ)) → Screen → List ℕ → Asked → List ℕ → Report → Report → Type 0
AddsText bytes_of screen given asked name before after =
    ((name ≡ input_name) × AddsRight screen asked name given before after)
    ⊎ ((name ≢ input_name) × (((source : List ℕ) × IsKeptOf asked (bytes_of name) source
    × AddsRight screen asked name source before after) ⊎ AddsComplaint name before after))

-- the texts of these names are reported on, one after another
abbrev pub AddsTexts : (List ℕ → Option (List ℕ)) → Screen → List ℕ → Asked → List (List ℕ) → Report → Report → Type 0
AddsTexts bytes_of screen given asked [] before after = before ≡ after
AddsTexts bytes_of screen given asked (name ∷ names) before after =
    (between : Report) × AddsText bytes_of screen given asked name before between
    × AddsTexts bytes_of screen given asked names between after

-- this is the text on standard input, as far as it is looked at, where it is asked for and its bytes are known
abbrev pub IsGiven : Option (List ℕ) → Asked → List ℕ → Type 0
IsGiven input asked given = Has (names_of asked) input_name → IsKeptOf asked input given

-- all texts of which the request is asked are reported on, and no others
pub record IsReport (bytes_of : List ℕ → Option (List ℕ)) (screen : Screen) (input : Option (List ℕ)) (asked : Asked)
    (report : Report) : Type 0 where
  pub given : List ℕ
  pub read : IsGiven input asked given
  pub start : Report
  pub empty : IsEmpty start
  pub texts : AddsTexts bytes_of screen given asked (names_of asked) start report
