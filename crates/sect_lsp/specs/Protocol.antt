-- Messages of JSON-RPC 2.0, as the protocol uses them.
use Rattle.std.specs.Prelude.{◌≡◌, ℕ, ℤ, negsuc, Bool, true, false, if◌then◌else◌, List, Option, Some, None}
use Rattle.std.specs.Prelude.{option_and_then, codes, IsUtf8}
use Rattle.serde_json.specs.Data.{Data, unsigned, negative, number, string, object, no_members, member}
use Rattle.serde_json.specs.{Find.{get, as_str}, Read.{read}}
use Rattle.sect_lsp.specs.declared.protocol.RequestError.{RequestError}
use Rattle.sect_lsp.specs.declared.protocol.RequestError.TheVariants as fault

-- the bytes of a message are this value, or no JSON
abbrev pub IsRead : List ℕ → Option Data → Type 0
IsRead bytes (Some d) = IsUtf8 bytes × (read bytes ≡ Some d)
IsRead bytes None = IsUtf8 bytes → read bytes ≡ None

-- a request is told by an integer or a text
abbrev pub is_id : Data → Bool
is_id (string s) = true
is_id (number (unsigned n)) = true
is_id (number (negative z)) = true
is_id _ = false

-- what a message is: what is asked, and under which number or name; what is told; an answer; or nothing of these
pub data Kind : Type 0 where
  Request : (id : Data) (method : List ℕ) → Kind
  Notification : (method : List ℕ) → Kind
  Response : Kind
  Invalid : Kind

abbrev pub kind_by : Option Data → Option (List ℕ) → Kind
kind_by (Some id) (Some method) = if is_id id then Request id method else Invalid
kind_by None (Some method) = Notification method
kind_by (Some id) None = Response
kind_by None None = Invalid

abbrev pub kind_of : Data → Kind
kind_of d = kind_by (get (codes "id") d) (option_and_then as_str (get (codes "method") d))

abbrev pub code_of : RequestError → ℤ
code_of fault.ParseError = negsuc 32699
code_of fault.InvalidRequest = negsuc 32599
code_of fault.MethodNotFound = negsuc 32600
code_of fault.InvalidParams = negsuc 32601
code_of fault.ServerNotInitialized = negsuc 32001

abbrev pub words_of : RequestError → List ℕ
words_of fault.ParseError = codes "the message is no JSON"
words_of fault.InvalidRequest = codes "this is no request that may come now"
words_of fault.MethodNotFound = codes "there is no such method"
words_of fault.InvalidParams = codes "the parameters aren't those of the method"
words_of fault.ServerNotInitialized = codes "the server waits for initialize"

-- what a request is answered: a value, or a fault
pub data ReplyView : Type 0 where
  Result : (value : Data) → ReplyView
  Error : (why : RequestError) → ReplyView

-- the answer is the value; where there is none, the parameters aren't those of the method
abbrev pub reply_with : Option Data → ReplyView
reply_with (Some value) = Result value
reply_with None = Error fault.InvalidParams

abbrev pub error_json : RequestError → Data
error_json why =
    object (member (codes "code") (number (negative (code_of why))) (member (codes "message") (string (words_of why))
    no_members))

-- the answer to what was asked under this number or name
abbrev pub response_json : Data → ReplyView → Data
response_json id (Result value) =
    object (member (codes "id") id (member (codes "jsonrpc") (string (codes "2.0")) (member (codes "result") value
    no_members)))
response_json id (Error why) =
    object (member (codes "error") (error_json why) (member (codes "id") id (member (codes "jsonrpc")
    (string (codes "2.0")) no_members)))

-- what is told under this name
abbrev pub notification_json : List ℕ → Data → Data
notification_json method params =
    object (member (codes "jsonrpc") (string (codes "2.0")) (member (codes "method") (string method)
    (member (codes "params") params no_members)))
