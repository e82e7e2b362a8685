-- How each token is spelled.
use Rattle.std.specs.{Prelude.{◌≡◌, ℕ, Bool, true, nat_lt, List, [], codes}, Fmt.{decimal}}
use Rattle.sect_front.specs.{Words.{is_name}, declared.tree.Comparison.{Comparison}, declared.token.Token.{Token}}
use Rattle.sect_front.specs.declared.tree.Comparison.TheVariants as comparison
use Rattle.sect_front.specs.declared.token.Token.TheVariants as token

abbrev pub comparison_spelling : Comparison → List ℕ
comparison_spelling comparison.Equal = codes "=="
comparison_spelling comparison.NotEqual = codes "!="
comparison_spelling comparison.Less = codes "<"
comparison_spelling comparison.LessOrEqual = codes "<="

-- a name by its bytes, an integer in decimal digits without a leading zero, a keyword or sign by itself
abbrev pub spelling_of : Token → List ℕ
spelling_of (token.Name n) = n
spelling_of (token.Number n) = decimal n
spelling_of token.Record = codes "record"
spelling_of token.ProtectedBy = codes "protected_by"
spelling_of token.Global = codes "global"
spelling_of token.Proc = codes "proc"
spelling_of token.Thread = codes "thread"
spelling_of token.Int = codes "int"
spelling_of token.New = codes "new"
spelling_of token.Null = codes "null"
spelling_of token.Print = codes "print"
spelling_of token.If = codes "if"
spelling_of token.Else = codes "else"
spelling_of token.While = codes "while"
spelling_of token.Atomic = codes "atomic"
spelling_of token.All = codes "all"
spelling_of token.Call = codes "call"
spelling_of token.Class = codes "class"
spelling_of token.OpenBrace = codes "{"
spelling_of token.CloseBrace = codes "}"
spelling_of token.OpenParen = codes "("
spelling_of token.CloseParen = codes ")"
spelling_of token.Semicolon = codes ";"
spelling_of token.Comma = codes ","
spelling_of token.Dot = codes "."
spelling_of token.Equal = codes "="
spelling_of token.Plus = codes "+"
spelling_of token.Minus = codes "-"
spelling_of token.Star = codes "*"
spelling_of (token.Comparison c) = comparison_spelling c

-- the spelling of a keyword or a sign, and nothing for a name or an integer
abbrev pub fixed_of : Token → List ℕ
fixed_of (token.Name n) = []
fixed_of (token.Number n) = []
fixed_of t = spelling_of t

-- a name is a name, and an integer is at most 9223372036854775807
abbrev pub is_proper : Token → Bool
is_proper (token.Name n) = is_name n
is_proper (token.Number n) = nat_lt n 9223372036854775808
is_proper _ = true

-- the bytes spell this token
pub record IsSpelling (t : Token) (bytes : List ℕ) : Type 0 where
  pub is : bytes ≡ spelling_of t
  pub proper : is_proper t ≡ true
