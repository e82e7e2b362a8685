-- The grammar, place by place: which tokens may stand at a place, and which places each of them is followed by.
use Rattle.std.specs.Prelude.{Bool, List, [], ◌∷◌, ◌++◌, Option, Some, None, is_some, option_and_then}
use Rattle.sect_front.specs.{declared.token.Token.{Token}, declared.expected.Expected.{Expected}}
use Rattle.sect_front.specs.declared.token.Token.TheVariants as token
use Rattle.sect_front.specs.declared.expected.Expected.TheVariants as expected

-- a name, and these places behind it
abbrev pub if_name : Token → List Expected → Option (List Expected)
if_name (token.Name n) list = Some list
if_name _ list = None

-- an operand, and these places behind it
abbrev pub if_operand : Token → List Expected → Option (List Expected)
if_operand (token.Name n) list = Some list
if_operand (token.Number n) list = Some list
if_operand token.Null list = Some list
if_operand _ list = None

-- a type, and these places behind it
abbrev pub if_kind : Token → List Expected → Option (List Expected)
if_kind token.Int list = Some list
if_kind (token.Name n) list = Some list
if_kind _ list = None

-- an operator, and these places behind it
abbrev pub if_operator : Token → List Expected → Option (List Expected)
if_operator token.Plus list = Some list
if_operator token.Minus list = Some list
if_operator token.Star list = Some list
if_operator _ list = None

-- the places of a test
abbrev pub test_places : List Expected → List Expected
test_places list =
    expected.OpenParen ∷ expected.Operand ∷ expected.Comparison ∷ expected.Operand ∷ expected.CloseParen ∷ list

-- behind a base and `.`
abbrev pub store_places : List Expected → List Expected
store_places list = expected.Name ∷ expected.Equal ∷ expected.Operand ∷ expected.Semicolon ∷ list

-- behind the first operand of a statement
abbrev pub first_follows : Token → Option (List Expected)
first_follows token.Semicolon = Some []
first_follows t = if_operator t (expected.Operand ∷ expected.Semicolon ∷ [])

-- {stmt} "}"
abbrev pub start_follows : Token → Option (List Expected)
start_follows (token.Name n) = Some (expected.AfterName ∷ expected.Start ∷ [])
start_follows token.Print = Some (expected.Operand ∷ expected.Semicolon ∷ expected.Start ∷ [])
start_follows token.If = Some (test_places (expected.OpenBrace ∷ expected.StartOrElse ∷ []))
start_follows token.While = Some (test_places (expected.OpenBrace ∷ expected.Start ∷ []))
start_follows token.Atomic = Some (expected.AllOrBrace ∷ expected.Start ∷ [])
start_follows token.Call =
    Some (expected.Name ∷ expected.OpenParen ∷ expected.Argument ∷ expected.Semicolon ∷ expected.Start ∷ [])
start_follows token.CloseBrace = Some []
start_follows _ = None

-- {thread}
abbrev pub threads_follow : Token → Option (List Expected)
threads_follow token.Thread = Some (expected.Name ∷ expected.OpenBody ∷ expected.Threads ∷ [])
threads_follow _ = None

-- {proc} {thread}
abbrev pub procedures_follow : Token → Option (List Expected)
procedures_follow token.Proc =
    Some (expected.Name ∷ expected.OpenParen ∷ expected.Parameter ∷ expected.OpenBody ∷ expected.Procedures ∷ [])
procedures_follow t = threads_follow t

-- {global} {proc} {thread}
abbrev pub globals_follow : Token → Option (List Expected)
globals_follow token.Global = Some (expected.Name ∷ expected.Name ∷ expected.Semicolon ∷ expected.Globals ∷ [])
globals_follow t = procedures_follow t

-- the places behind a token at a place, where it may stand there
abbrev pub follows : Expected → Token → Option (List Expected)
follows expected.Name t = if_name t []
follows expected.Semicolon token.Semicolon = Some []
follows expected.Equal token.Equal = Some []
follows expected.OpenParen token.OpenParen = Some []
follows expected.CloseParen token.CloseParen = Some []
follows expected.OpenBrace token.OpenBrace = Some (expected.Start ∷ [])
follows expected.Comparison (token.Comparison c) = Some []
follows expected.Operand t = if_operand t []
follows expected.AfterName token.Equal = Some (expected.Value ∷ [])
follows expected.AfterName token.Dot = Some (store_places [])
follows expected.Value (token.Name n) = Some (expected.AfterFirstName ∷ [])
follows expected.Value token.New = Some (expected.Name ∷ expected.Semicolon ∷ [])
follows expected.Value t = if_operand t (expected.AfterFirst ∷ [])
follows expected.AfterFirst t = first_follows t
follows expected.AfterFirstName token.Dot = Some (expected.Name ∷ expected.Semicolon ∷ [])
follows expected.AfterFirstName t = first_follows t
follows expected.AllOrBrace token.All = Some (expected.OpenBrace ∷ [])
follows expected.AllOrBrace token.OpenBrace = Some (expected.Start ∷ [])
follows expected.Argument token.CloseParen = Some []
follows expected.Argument t = if_operand t (expected.AfterArgument ∷ [])
follows expected.AfterArgument token.Comma = Some (expected.Operand ∷ expected.AfterArgument ∷ [])
follows expected.AfterArgument token.CloseParen = Some []
follows expected.Start t = start_follows t
follows expected.StartOrElse token.Else = Some (expected.OpenBrace ∷ expected.Start ∷ [])
follows expected.StartOrElse t = start_follows t
follows expected.StartOrLocal token.Int = Some (expected.Name ∷ expected.Semicolon ∷ expected.StartOrLocal ∷ [])
follows expected.StartOrLocal (token.Name n) = Some (expected.NameOrAfterName ∷ [])
follows expected.StartOrLocal t = start_follows t
follows expected.NameOrAfterName (token.Name n) = Some (expected.Semicolon ∷ expected.StartOrLocal ∷ [])
follows expected.NameOrAfterName token.Equal = Some (expected.Value ∷ expected.Start ∷ [])
follows expected.NameOrAfterName token.Dot = Some (store_places (expected.Start ∷ []))
follows expected.Field token.CloseBrace = Some []
follows expected.Field t = if_kind t (expected.Name ∷ expected.Semicolon ∷ expected.Field ∷ [])
follows expected.HintOrBrace token.ProtectedBy = Some (expected.Name ∷ expected.HintOrBrace ∷ [])
follows expected.HintOrBrace token.OpenBrace = Some (expected.Field ∷ [])
follows expected.Parameter token.CloseParen = Some []
follows expected.Parameter t = if_kind t (expected.Name ∷ expected.AfterParameter ∷ [])
follows expected.AfterParameter token.Comma = Some (expected.Kind ∷ expected.Name ∷ expected.AfterParameter ∷ [])
follows expected.AfterParameter token.CloseParen = Some []
follows expected.Kind t = if_kind t []
follows expected.OpenBody token.OpenBrace = Some (expected.StartOrLocal ∷ [])
follows expected.Records token.Record = Some (expected.Name ∷ expected.HintOrBrace ∷ expected.Records ∷ [])
follows expected.Records t = globals_follow t
follows expected.Globals t = globals_follow t
follows expected.Procedures t = procedures_follow t
follows expected.Threads t = threads_follow t
follows _ _ = None

-- this token may stand there
abbrev pub takes : Expected → Token → Bool
takes e t = is_some (follows e t)

-- the places that are left behind these tokens, where they may stand one after another
abbrev pub after : List Expected → List Token → Option (List Expected)
after list [] = Some list
after [] (t ∷ ts) = None
after (e ∷ list) (t ∷ ts) = option_and_then (λ behind. after (behind ++ list) ts) (follows e t)
