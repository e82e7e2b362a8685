-- The token that bytes spell, as it is looked for.
use Rattle.std.specs.Prelude.{ℕ, ◌+◌, ◌-◌, ◌*◌, ◌&&◌, ◌==◌, nat_lt, if◌then◌else◌, List, [], ◌∷◌, Option, Some, None}
use Rattle.std.specs.{Prelude.{length, codes, nat_eq}, List.{list_all, filter}, Str.{bytes_eq}}
use Rattle.sect_front.specs.{Limits.{most_name_bytes}, Words.{is_letter, is_digit, is_name_byte}}
use Rattle.sect_front.specs.declared.token.Token.{Token}
use Rattle.sect_front.specs.declared.tree.Comparison.TheVariants as comparison
use Rattle.sect_front.specs.declared.token.Token.TheVariants as token

-- the keywords and their spellings
abbrev pub keyword_table : List (List ℕ × Token)
keyword_table =
    (codes "record", token.Record) ∷
    (codes "protected_by", token.ProtectedBy) ∷
    (codes "global", token.Global) ∷
    (codes "proc", token.Proc) ∷
    (codes "thread", token.Thread) ∷
    (codes "int", token.Int) ∷
    (codes "null", token.Null) ∷
    (codes "new", token.New) ∷
    (codes "print", token.Print) ∷
    (codes "if", token.If) ∷
    (codes "else", token.Else) ∷
    (codes "while", token.While) ∷
    (codes "atomic", token.Atomic) ∷
    (codes "all", token.All) ∷
    (codes "call", token.Call) ∷
    (codes "class", token.Class) ∷ []

-- the token beside these bytes in a table
abbrev pub token_beside : List ℕ → List (List ℕ × Token) → Option Token
token_beside w [] = None
token_beside w (row ∷ rows) = if bytes_eq w row.0 then Some row.1 else token_beside w rows

-- the keywords of so many bytes
abbrev pub keywords_of : ℕ → List (List ℕ × Token)
keywords_of n = filter (λ row. nat_eq (length row.0) n) keyword_table

-- the keyword that a word is
abbrev pub keyword_of : List ℕ → Option Token
keyword_of w = token_beside w keyword_table

abbrev pub or_name : Option Token → List ℕ → Token
or_name (Some t) w = t
or_name None w = token.Name w

-- the keyword that a word is, or a name
abbrev pub word_token : List ℕ → Token
word_token w = or_name (keyword_of w) w

-- the number that digits are after a number, where it is below 2 ^ 63
abbrev pub decimal_from : ℕ → List ℕ → Option ℕ
decimal_from n [] = Some n
decimal_from n (d ∷ ds) =
    if is_digit d && nat_lt (n * 10 + (d - 48)) 9223372036854775808 then decimal_from (n * 10 + (d - 48)) ds else None

-- no zero stands before another digit
abbrev pub number_of : List ℕ → Option ℕ
number_of [] = None
number_of (d ∷ ds) = if d == 48 && nat_lt 0 (length ds) then None else decimal_from 0 (d ∷ ds)

abbrev pub as_number : Option ℕ → Option Token
as_number None = None
as_number (Some n) = Some (token.Number n)

-- the sign that a byte is alone: one of { } ( ) ; , . = + - * <
abbrev pub single_sign : ℕ → Option Token
single_sign b =
    if b == 123 then Some token.OpenBrace else (
    if b == 125 then Some token.CloseBrace else (
    if b == 40 then Some token.OpenParen else (
    if b == 41 then Some token.CloseParen else (
    if b == 59 then Some token.Semicolon else (
    if b == 44 then Some token.Comma else (
    if b == 46 then Some token.Dot else (
    if b == 61 then Some token.Equal else (
    if b == 43 then Some token.Plus else (
    if b == 45 then Some token.Minus else (
    if b == 42 then Some token.Star else (
    if b == 60 then Some (token.Comparison comparison.Less) else None)))))))))))

-- the sign that a byte and `=` are: == != <=
abbrev pub double_sign : ℕ → Option Token
double_sign b =
    if b == 61 then Some (token.Comparison comparison.Equal) else (
    if b == 33 then Some (token.Comparison comparison.NotEqual) else (
    if b == 60 then Some (token.Comparison comparison.LessOrEqual) else None))

abbrev pub sign_token : ℕ → List ℕ → Option Token
sign_token b [] = single_sign b
sign_token b (c ∷ []) = if c == 61 then double_sign b else None
sign_token b _ = None

-- the token that bytes spell, all of them
abbrev pub spelled : List ℕ → Option Token
spelled [] = None
spelled (b ∷ bs) =
    if is_letter b
    then (if list_all is_name_byte bs && nat_lt (length bs) most_name_bytes then Some (word_token (b ∷ bs)) else None)
    else (if is_digit b then as_number (number_of (b ∷ bs)) else sign_token b bs)
