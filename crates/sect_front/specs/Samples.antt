-- A token of each kind, and how it is spelled.
use Rattle.std.specs.Prelude.{ℕ, List, codes}
use Rattle.sect_front.specs.{Spelling.{fixed_of}, declared.token.Token.{Token}}
use Rattle.sect_front.specs.declared.token_kind.TokenKind.{TokenKind}
use Rattle.sect_front.specs.declared.token.Token.TheVariants as token
use Rattle.sect_front.specs.declared.token_kind.TokenKind.TheVariants as kind

abbrev pub sample_of : TokenKind → Token
sample_of kind.Name = token.Name (codes "x")
sample_of kind.Record = token.Record
sample_of kind.ProtectedBy = token.ProtectedBy
sample_of kind.Global = token.Global
sample_of kind.Proc = token.Proc
sample_of kind.Thread = token.Thread
sample_of kind.Int = token.Int
sample_of kind.Null = token.Null
sample_of kind.New = token.New
sample_of kind.Print = token.Print
sample_of kind.If = token.If
sample_of kind.Else = token.Else
sample_of kind.While = token.While
sample_of kind.Atomic = token.Atomic
sample_of kind.All = token.All
sample_of kind.Call = token.Call
sample_of kind.Class = token.Class
sample_of kind.Number = token.Number 0
sample_of kind.OpenBrace = token.OpenBrace
sample_of kind.CloseBrace = token.CloseBrace
sample_of kind.OpenParen = token.OpenParen
sample_of kind.CloseParen = token.CloseParen
sample_of kind.Semicolon = token.Semicolon
sample_of kind.Comma = token.Comma
sample_of kind.Dot = token.Dot
sample_of kind.Equal = token.Equal
sample_of kind.Plus = token.Plus
sample_of kind.Minus = token.Minus
sample_of kind.Star = token.Star
sample_of (kind.Comparison c) = token.Comparison c

-- how keywords and signs of this kind are spelled; of names and integers nothing is told
abbrev pub kind_spelling : TokenKind → List ℕ
kind_spelling k = fixed_of (sample_of k)
