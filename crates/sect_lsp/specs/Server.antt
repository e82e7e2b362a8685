-- The server as a machine: what it knows, and what comes of each message.
use Rattle.std.specs.Prelude.{◌≡◌, ℕ, Bool, true, false, if◌then◌else◌, ◌||◌, nat_le, List, [], ◌∷◌, Option, Some, None}
use Rattle.std.specs.{Prelude.{option_and_then, codes}, Str.{bytes_eq}}
use Rattle.serde_json.specs.Data.{Data, null, boolean, number, unsigned, string, array, object, Items, no_items, item}
use Rattle.serde_json.specs.{Data.{no_members, member}, Find.{pointer, as_str, as_array, as_number, as_u64}}
use Rattle.sect_editor.specs.declared.position.Encoding.{Encoding}
use Rattle.sect_editor.specs.declared.position.Encoding.TheVariants.{Utf8, Utf16}
use Rattle.sect_editor.specs.{declared.question.Question.{Question}, declared.text.Reading.{Reading}}
use Rattle.sect_editor.specs.{Diagnosing.{AreDiagnostics}, Asking.{IsAnswerTo}}
use Rattle.sect_lsp.specs.{declared.protocol.RequestError.{RequestError}, declared.server.Phase.{Phase}}
use Rattle.sect_lsp.specs.{declared.server.Asked.{Asked}, declared.server.Told.{Told}}
use Rattle.sect_lsp.specs.Limits.{most_k, default_k}
use Rattle.sect_lsp.specs.{Changes.{after_changes}, Documents.{DocumentView, text_of, closed, opened}}
use Rattle.sect_lsp.specs.Protocol.{Kind, Request, Notification, Response, Invalid, kind_of, ReplyView, Result, Error}
use Rattle.sect_lsp.specs.Protocol.{IsRead, reply_with, response_json, notification_json}
use Rattle.sect_lsp.specs.declared.protocol.RequestError.TheVariants as fault
use Rattle.sect_editor.specs.declared.query.Query.TheVariants as query
use Rattle.sect_editor.specs.declared.question.Question.TheVariants as question
use Rattle.sect_lsp.specs.declared.server.Phase.TheVariants as phase
use Rattle.sect_lsp.specs.declared.server.Asked.TheVariants as asked
use Rattle.sect_lsp.specs.declared.server.Told.TheVariants as told

-- what the server knows: what may come now, the most fields of a path, how columns are counted, and the open documents
pub record ServerView : Type 0 where
  pub phase : Phase
  pub k : ℕ
  pub encoding : Encoding
  pub documents : List DocumentView

abbrev pub in_phase : Phase → ServerView → ServerView
in_phase p s = record { phase = p; k = s.k; encoding = s.encoding; documents = s.documents }

abbrev pub with_documents : List DocumentView → ServerView → ServerView
with_documents ds s = record { phase = s.phase; k = s.k; encoding = s.encoding; documents = ds }

-- ---- what is asked

abbrev pub asked_by : List ℕ → Asked
asked_by method =
    if bytes_eq method (codes "initialize") then asked.Initialize
    else if bytes_eq method (codes "shutdown") then asked.Shutdown
    else if bytes_eq method (codes "textDocument/documentSymbol") then asked.Document question.Symbols
    else if bytes_eq method (codes "textDocument/definition") then asked.Document (question.Names query.Definition)
    else if bytes_eq method (codes "textDocument/references") then asked.Document (question.Names query.References)
    else if bytes_eq method (codes "textDocument/documentHighlight")
    then asked.Document (question.Names query.Highlights)
    else if bytes_eq method (codes "textDocument/rename") then asked.Document (question.Names query.Rename)
    else if bytes_eq method (codes "textDocument/hover") then asked.Document question.Hover
    else if bytes_eq method (codes "textDocument/inlayHint") then asked.Document question.Hints
    else if bytes_eq method (codes "textDocument/codeLens") then asked.Document question.Lenses
    else if bytes_eq method (codes "textDocument/completion") then asked.Document question.Completion
    else asked.Unknown

-- the text is among these values
abbrev pub is_text : List ℕ → Option (List ℕ) → Bool
is_text text None = false
is_text text (Some other) = bytes_eq other text

abbrev pub has_text : List ℕ → Items → Bool
has_text text no_items = false
has_text text (item d ds) = is_text text (as_str d) || has_text text ds

abbrev pub encoding_by : Option Items → Encoding
encoding_by None = Utf16
encoding_by (Some offered) = if has_text (codes "utf-8") offered then Utf8 else Utf16

-- bytes where the editor offers them
abbrev pub encoding_of : Data → Encoding
encoding_of d =
    encoding_by (option_and_then as_array (pointer (codes "/params/capabilities/general/positionEncodings") d))

abbrev pub allowed : ℕ → Option ℕ
allowed k = if nat_le k most_k then Some k else None

abbrev pub k_by : Option Data → Option ℕ
k_by None = Some default_k
k_by (Some d) = option_and_then allowed (option_and_then as_u64 (as_number d))

-- the most fields of a path, if the editor says a number of them that may be
abbrev pub k_of : Data → Option ℕ
k_of d = k_by (pointer (codes "/params/initializationOptions/k") d)

abbrev pub encoding_name : Encoding → List ℕ
encoding_name Utf8 = codes "utf-8"
encoding_name Utf16 = codes "utf-16"

-- a change is the whole text or a range, and documents are opened and closed
abbrev pub sync_json : Data
sync_json =
    object (member (codes "change") (number (unsigned 2)) (member (codes "openClose") (boolean true) no_members))

-- completion is asked for behind a dot, too
abbrev pub completion_json : Data
completion_json =
    object (member (codes "triggerCharacters") (array (item (string (codes ".")) no_items)) no_members)

abbrev pub able_json : Encoding → Data
able_json encoding =
    object (member (codes "codeLensProvider") (object no_members)
    (member (codes "completionProvider") completion_json
    (member (codes "definitionProvider") (boolean true)
    (member (codes "documentHighlightProvider") (boolean true)
    (member (codes "documentSymbolProvider") (boolean true)
    (member (codes "hoverProvider") (boolean true)
    (member (codes "inlayHintProvider") (boolean true)
    (member (codes "positionEncoding") (string (encoding_name encoding))
    (member (codes "referencesProvider") (boolean true)
    (member (codes "renameProvider") (boolean true)
    (member (codes "textDocumentSync") sync_json no_members)))))))))))

-- what the server can do
abbrev pub capabilities_json : Encoding → Data
capabilities_json encoding =
    object (member (codes "capabilities") (able_json encoding)
    (member (codes "serverInfo") (object (member (codes "name") (string (codes "sectc")) no_members)) no_members))

abbrev pub Begins : ServerView → Data → Option ℕ → ReplyView → ServerView → Type 0
Begins s d None reply t = (reply ≡ Error fault.InvalidParams) × (t ≡ s)
Begins s d (Some k) reply t =
    (reply ≡ Result (capabilities_json (encoding_of d)))
    × (t ≡ record { phase = phase.Serving; k = k; encoding = encoding_of d; documents = s.documents })

-- a fault, and nothing changes
abbrev pub Refuses : ServerView → ReplyView → ServerView → RequestError → Type 0
Refuses s reply t why = (reply ≡ Error why) × (t ≡ s)

-- what is asked before `initialize`
abbrev pub RepliesWaiting : ServerView → Asked → Data → ReplyView → ServerView → Type 0
RepliesWaiting s asked.Initialize d reply t = Begins s d (k_of d) reply t
RepliesWaiting s _ d reply t = Refuses s reply t fault.ServerNotInitialized

-- ---- what is asked of documents

-- the document that a message names
abbrev pub uri_of : Data → Option (List ℕ)
uri_of d = option_and_then as_str (pointer (codes "/params/textDocument/uri") d)

-- how texts are read
abbrev pub reading_of : ServerView → Reading
reading_of s = record { k = s.k; encoding = s.encoding }

-- of a document that isn't open nothing is answered
abbrev pub IsTextReply : ServerView → Question → Data → List ℕ → Option (List ℕ) → ReplyView → Type 0
IsTextReply s q d uri None reply = reply ≡ Error fault.InvalidParams
IsTextReply s q d uri (Some source) reply =
    (answer : Option Data) × IsAnswerTo q (reading_of s) d uri source answer × (reply ≡ reply_with answer)

abbrev pub IsDocumentReply : ServerView → Question → Data → Option (List ℕ) → ReplyView → Type 0
IsDocumentReply s q d None reply = reply ≡ Error fault.InvalidParams
IsDocumentReply s q d (Some uri) reply = IsTextReply s q d uri (text_of uri s.documents) reply

-- while the server serves
abbrev pub RepliesServing : ServerView → Asked → Data → ReplyView → ServerView → Type 0
RepliesServing s asked.Initialize d reply t = Refuses s reply t fault.InvalidRequest
RepliesServing s asked.Shutdown d reply t = (reply ≡ Result null) × (t ≡ in_phase phase.ShutDown s)
RepliesServing s (asked.Document q) d reply t = IsDocumentReply s q d (uri_of d) reply × (t ≡ s)
RepliesServing s asked.Unknown d reply t = Refuses s reply t fault.MethodNotFound

abbrev pub RepliesBy : Phase → ServerView → Asked → Data → ReplyView → ServerView → Type 0
RepliesBy phase.Waiting s a d reply t = RepliesWaiting s a d reply t
RepliesBy phase.Serving s a d reply t = RepliesServing s a d reply t
RepliesBy phase.ShutDown s a d reply t = Refuses s reply t fault.InvalidRequest
RepliesBy phase.Done s a d reply t = Refuses s reply t fault.InvalidRequest
RepliesBy phase.Abandoned s a d reply t = Refuses s reply t fault.InvalidRequest

-- ---- what is told

abbrev pub told_by : List ℕ → Told
told_by method =
    if bytes_eq method (codes "exit") then told.Exit
    else if bytes_eq method (codes "textDocument/didOpen") then told.Opened
    else if bytes_eq method (codes "textDocument/didChange") then told.Changed
    else if bytes_eq method (codes "textDocument/didClose") then told.Closed
    else told.Other

abbrev pub phase_after_exit : Phase → Phase
phase_after_exit phase.ShutDown = phase.Done
phase_after_exit phase.Done = phase.Done
phase_after_exit _ = phase.Abandoned

abbrev pub text_at_opening : Data → Option (List ℕ)
text_at_opening d = option_and_then as_str (pointer (codes "/params/textDocument/text") d)

-- the text that the changes of an open document lead to
abbrev pub text_after : ServerView → List ℕ → Data → Option (List ℕ)
text_after s uri d =
    option_and_then (λ text. option_and_then (after_changes s.encoding text)
    (option_and_then as_array (pointer (codes "/params/contentChanges") d))) (text_of uri s.documents)

abbrev pub diagnostics_json : List ℕ → Data → Data
diagnostics_json uri diagnostics =
    notification_json (codes "textDocument/publishDiagnostics")
    (object (member (codes "diagnostics") diagnostics (member (codes "uri") (string uri) no_members)))

-- the diagnostics of this very text are published
abbrev pub Publishes : ServerView → List ℕ → List ℕ → List Data → Type 0
Publishes s uri text out =
    (diagnostics : Data) × AreDiagnostics s.encoding s.k uri text diagnostics
    × (out ≡ diagnostics_json uri diagnostics ∷ [])

abbrev pub Ignores : ServerView → List Data → ServerView → Type 0
Ignores s out t = (out ≡ []) × (t ≡ s)

-- a text is kept for a document, and its diagnostics are published
abbrev pub Keeps : ServerView → List ℕ → Option (List ℕ) → List Data → ServerView → Type 0
Keeps s uri None out t = Ignores s out t
Keeps s uri (Some text) out t = Publishes s uri text out × (t ≡ with_documents (opened uri text s.documents) s)

-- a document is forgotten, and its diagnostics are taken back
abbrev pub Forgets : ServerView → List ℕ → List Data → ServerView → Type 0
Forgets s uri out t =
    (out ≡ diagnostics_json uri (array no_items) ∷ []) × (t ≡ with_documents (closed uri s.documents) s)

abbrev pub NotesOf : ServerView → Told → Data → Option (List ℕ) → List Data → ServerView → Type 0
NotesOf s told.Opened d (Some uri) out t = Keeps s uri (text_at_opening d) out t
NotesOf s told.Changed d (Some uri) out t = Keeps s uri (text_after s uri d) out t
NotesOf s told.Closed d (Some uri) out t = Forgets s uri out t
NotesOf s _ d _ out t = Ignores s out t

-- documents are told of while the server serves alone
abbrev pub NotesBy : Phase → ServerView → Told → Data → List Data → ServerView → Type 0
NotesBy phase.Serving s what d out t = NotesOf s what d (uri_of d) out t
NotesBy _ s what d out t = Ignores s out t

abbrev pub Notes : ServerView → Told → Data → List Data → ServerView → Type 0
Notes s told.Exit d out t = (out ≡ []) × (t ≡ in_phase (phase_after_exit s.phase) s)
Notes s what d out t = NotesBy s.phase s what d out t

-- ---- messages

abbrev pub Receives : ServerView → Data → Kind → List Data → ServerView → Type 0
Receives s d (Request id method) out t =
    (reply : ReplyView) × RepliesBy s.phase s (asked_by method) d reply t × (out ≡ response_json id reply ∷ [])
Receives s d (Notification method) out t = Notes s (told_by method) d out t
Receives s d Response out t = Ignores s out t
Receives s d Invalid out t = (out ≡ response_json null (Error fault.InvalidRequest) ∷ []) × (t ≡ s)

abbrev pub Takes : ServerView → Option Data → List Data → ServerView → Type 0
Takes s None out t = (out ≡ response_json null (Error fault.ParseError) ∷ []) × (t ≡ s)
Takes s (Some d) out t = Receives s d (kind_of d) out t

-- one step: the bytes of a message come, these messages go out, and the server goes on so
abbrev pub Step : ServerView → List ℕ → List Data → ServerView → Type 0
Step s message out t = (d : Option Data) × IsRead message d × Takes s d out t

-- a server that has just been started
abbrev pub start : ServerView
start = record { phase = phase.Waiting; k = default_k; encoding = Utf16; documents = [] }
