-- What is to be written in place of what stands at a mistake, for those who write as in C, Java or Rust.
use Rattle.std.specs.Prelude.{ℕ, zero, suc, ◌+◌, ◌-◌, ◌==◌, ◌||◌, ◌&&◌, Bool, if◌then◌else◌, List, take, drop, get_or}
use Rattle.std.specs.{Prelude.{Option, Some, None, codes}, List.{list_any}, Str.{bytes_eq}}
use Rattle.sect_front.specs.{Gaps.{is_blank, line_feed}, Words.{is_name_byte}, Samples.{kind_spelling}}
use Rattle.sect_front.specs.{declared.span.Span.{Span}, declared.token_kind.TokenKind.{TokenKind}}
use Rattle.sect_advice.specs.declared.advice.Advice.{Advice}
use Rattle.sect_advice.specs.declared.advice.Advice.TheVariants as advice

-- ---- what stands at a place and before it

-- where the blanks before a place begin
abbrev pub end_before : List ℕ → ℕ → ℕ
end_before source zero = zero
end_before source (suc n) = if is_blank (get_or source n 0) then end_before source n else suc n

-- where the word that ends at a place begins
abbrev pub start_before : List ℕ → ℕ → ℕ
start_before source zero = zero
start_before source (suc n) = if is_name_byte (get_or source n 0) then start_before source n else suc n

abbrev pub bytes_between : List ℕ → ℕ → ℕ → List ℕ
bytes_between source start end = take (end - start) (drop start source)

-- the word before a place, if one stands before the blanks there
abbrev pub word_before : List ℕ → ℕ → List ℕ
word_before source at =
    bytes_between source (start_before source (end_before source at)) (end_before source at)

-- the byte before a place and the blanks there
abbrev pub byte_before : List ℕ → ℕ → ℕ
byte_before source at = get_or source (end_before source at - 1) 0

-- a line ends between a place and what stands before it
abbrev pub begins_line : List ℕ → ℕ → Bool
begins_line source at = list_any (λ b. b == line_feed) (bytes_between source (end_before source at) at)

-- ---- by a word that other languages have

abbrev pub of_statement : List ℕ → Option Advice
of_statement w =
    if bytes_eq w (codes "return") then Some advice.Return
    else if bytes_eq w (codes "break") || bytes_eq w (codes "continue") then Some advice.Jump
    else if bytes_eq w (codes "for") || bytes_eq w (codes "do") then Some advice.Loop
    else if bytes_eq w (codes "synchronized") || bytes_eq w (codes "lock") then Some advice.Section
    else None

abbrev pub of_value : List ℕ → Option Advice
of_value w =
    if bytes_eq w (codes "true") || bytes_eq w (codes "false") then Some advice.Truth
    else if bytes_eq w (codes "NULL") || (bytes_eq w (codes "nullptr") || bytes_eq w (codes "nil"))
    then Some advice.Null
    else None

abbrev pub of_type : List ℕ → Option Advice
of_type w =
    if bytes_eq w (codes "let") || (bytes_eq w (codes "var") || bytes_eq w (codes "auto"))
    then Some advice.Declaration
    else if bytes_eq w (codes "bool") || (bytes_eq w (codes "boolean") || bytes_eq w (codes "void"))
    then Some advice.Types
    else if bytes_eq w (codes "Int") || (bytes_eq w (codes "long") || bytes_eq w (codes "unsigned"))
    then Some advice.Types
    else if bytes_eq w (codes "char") || (bytes_eq w (codes "string") || bytes_eq w (codes "String"))
    then Some advice.Texts
    else None

abbrev pub unless : Option Advice → Option Advice → Option Advice
unless (Some a) other = Some a
unless None other = other

-- what is said of a name that nothing has
abbrev pub on_name : List ℕ → Option Advice
on_name w = unless (of_statement w) (unless (of_value w) (of_type w))

-- ---- by a byte with which no token begins

-- where this byte stands before it, and this one behind
abbrev pub by_byte : ℕ → ℕ → ℕ → Option Advice
by_byte before byte next =
    if byte == 62 then (if before == 45 then Some advice.Arrow else Some advice.Greater)
    else if byte == 33 then Some advice.Not
    else if byte == 38 || byte == 124 then Some advice.Connective
    else if byte == 34 || byte == 39 then Some advice.Texts
    else if byte == 91 || byte == 93 then Some advice.Array
    else if byte == 47 then (if next == 42 then Some advice.Comment else Some advice.Division)
    else if byte == 37 then Some advice.Division
    else if byte == 35 then Some advice.Comment
    else if byte == 58 then Some advice.Declaration
    else None

abbrev pub on_byte : List ℕ → ℕ → Option Advice
on_byte source at = by_byte (byte_before source at) (get_or source at 0) (get_or source (at + 1) 0)

-- ---- by a token that can't stand where it does

-- one of the kinds that may stand there is spelled so
abbrev pub expects : List TokenKind → List ℕ → Bool
expects kinds word = list_any (λ k. bytes_eq (kind_spelling k) word) kinds

-- outside threads and procedures
abbrev pub outside : List ℕ → Option Advice
outside w =
    if bytes_eq w (codes ";") then Some advice.SpareSemicolon
    else if bytes_eq w (codes "}") then Some advice.SpareBrace
    else if bytes_eq w (codes "record") || (bytes_eq w (codes "global") || bytes_eq w (codes "proc"))
    then Some advice.Order
    else if bytes_eq w (codes "struct") || bytes_eq w (codes "typedef") then Some advice.Record
    else Some advice.Outside

-- behind the first name of a statement, where this word is that name
abbrev pub behind_name : List ℕ → List ℕ → Option Advice
behind_name before w =
    unless (of_statement before)
    (if bytes_eq w (codes "(") then Some advice.Call
    else if bytes_eq w (codes "+") || (bytes_eq w (codes "-") || bytes_eq w (codes "*")) then Some advice.Compound
    else None)

-- where a value may stand
abbrev pub at_value : List ℕ → Option Advice
at_value w =
    if bytes_eq w (codes "-") then Some advice.Negative
    else if bytes_eq w (codes "call") then Some advice.Call
    else None

-- where a statement or a declaration may end
abbrev pub at_end : List ℕ → Bool → Option Advice
at_end w new_line =
    if bytes_eq w (codes "=") then Some advice.Initial
    else if bytes_eq w (codes ",") then Some advice.OneEach
    else if bytes_eq w (codes "(") then Some advice.Call
    else if new_line then Some advice.Semicolon
    else None

-- where a word of the language stands before it
abbrev pub behind_word : List ℕ → List ℕ → Option Advice
behind_word before w =
    if bytes_eq before (codes "if") || bytes_eq before (codes "while") then Some advice.Parentheses
    else if bytes_eq before (codes "else") && bytes_eq w (codes "if") then Some advice.ElseIf
    else None

-- in a thread or a procedure, by what may stand there
abbrev pub inside : List TokenKind → List ℕ → List ℕ → Bool → Option Advice
inside kinds before w new_line =
    if bytes_eq w (codes ".") then Some advice.OneField
    else if expects kinds (codes "<") then Some advice.Test
    else if expects kinds (codes "print") then (if bytes_eq w (codes "int") then Some advice.LocalsFirst else None)
    else if expects kinds (codes "=") then behind_name before w
    else if expects kinds (codes "null") then at_value w
    else if expects kinds (codes ";") then at_end w new_line
    else behind_word before w

-- what is said of a token of these bytes, where one of these kinds may stand
abbrev pub on_token : List ℕ → Span → List TokenKind → Option Advice
on_token source span kinds =
    if expects kinds (codes "thread") then outside (bytes_between source span.start span.end)
    else inside kinds (word_before source span.start) (bytes_between source span.start span.end)
    (begins_line source span.start)
