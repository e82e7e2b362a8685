-- Which kinds of tokens may follow others.
use Rattle.std.specs.Prelude.{◌≡◌, ◌↔◌, ℕ, Bool, true, List, [], ◌∷◌, ◌++◌, filter, nat_lt, take_while}
use Rattle.sect_front.specs.{TokenAt.{TokenAt}, Lexing.{Spells}, Faults.{tokens_in, IsViable}}
use Rattle.sect_front.specs.{declared.token.Token.{Token}, declared.token_kind.TokenKind.{TokenKind}}
use Rattle.sect_front.specs.declared.token.Token.TheVariants as token
use Rattle.sect_front.specs.declared.tree.Comparison.TheVariants as comparison
use Rattle.sect_front.specs.declared.token_kind.TokenKind.TheVariants as kind

-- all names are of one kind, and so are all integers
abbrev pub kind_of : Token → TokenKind
kind_of (token.Name n) = kind.Name
kind_of token.Record = kind.Record
kind_of token.ProtectedBy = kind.ProtectedBy
kind_of token.Global = kind.Global
kind_of token.Proc = kind.Proc
kind_of token.Thread = kind.Thread
kind_of token.Int = kind.Int
kind_of token.Null = kind.Null
kind_of token.New = kind.New
kind_of token.Print = kind.Print
kind_of token.If = kind.If
kind_of token.Else = kind.Else
kind_of token.While = kind.While
kind_of token.Atomic = kind.Atomic
kind_of token.All = kind.All
kind_of token.Call = kind.Call
kind_of token.Class = kind.Class
kind_of (token.Number n) = kind.Number
kind_of token.OpenBrace = kind.OpenBrace
kind_of token.CloseBrace = kind.CloseBrace
kind_of token.OpenParen = kind.OpenParen
kind_of token.CloseParen = kind.CloseParen
kind_of token.Semicolon = kind.Semicolon
kind_of token.Comma = kind.Comma
kind_of token.Dot = kind.Dot
kind_of token.Equal = kind.Equal
kind_of token.Plus = kind.Plus
kind_of token.Minus = kind.Minus
kind_of token.Star = kind.Star
kind_of (token.Comparison c) = kind.Comparison c

-- all kinds, in the order of the language's table of tokens: names, keywords, integers, signs
abbrev pub all_kinds : List TokenKind
all_kinds =
    kind.Name ∷ kind.Record ∷ kind.ProtectedBy ∷ kind.Global ∷ kind.Proc ∷ kind.Thread ∷ kind.Int ∷ kind.Null ∷
    kind.New ∷ kind.Print ∷ kind.If ∷ kind.Else ∷ kind.While ∷ kind.Atomic ∷ kind.All ∷ kind.Call ∷ kind.Class ∷
    kind.Number ∷ kind.OpenBrace ∷ kind.CloseBrace ∷ kind.OpenParen ∷ kind.CloseParen ∷ kind.Semicolon ∷ kind.Comma ∷
    kind.Dot ∷ kind.Equal ∷ kind.Plus ∷ kind.Minus ∷ kind.Star ∷ kind.Comparison comparison.Equal ∷
    kind.Comparison comparison.NotEqual ∷ kind.Comparison comparison.Less ∷ kind.Comparison comparison.LessOrEqual ∷ []

-- some tree's tokens begin with these and one of that kind
abbrev pub MayFollow : List Token → TokenKind → Type 0
MayFollow front k = (t : Token) × (kind_of t ≡ k) × IsViable (front ++ t ∷ [])

-- these are the kinds that may follow, in their order
abbrev pub AreExpected : List Token → List TokenKind → Type 0
AreExpected front kinds =
    (may : TokenKind → Bool) × ((k : TokenKind) → (may k ≡ true) ↔ MayFollow front k) × (kinds ≡ filter may all_kinds)

-- the tokens that begin before a place
abbrev pub tokens_before : ℕ → List TokenAt → List Token
tokens_before at places = tokens_in (take_while (λ p. nat_lt p.at at) places)

-- these are the kinds that may stand at a place of the text, by the tokens before it
abbrev pub AreExpectedAt : List ℕ → ℕ → List TokenKind → Type 0
AreExpectedAt bytes at kinds =
    (places : List TokenAt) → Spells bytes places → AreExpected (tokens_before at places) kinds
