-- Signs and keywords that a rule looks for.
use Rattle.std.specs.Prelude.{ℕ, ⊤}
use Rattle.sect_front.specs.{declared.token.Token.{Token}, declared.expected.Expected.{Expected}}
use Rattle.sect_front.specs.declared.cursor.Keyword.{Keyword}
use Rattle.sect_front.specs.declared.token.Token.TheVariants as token
use Rattle.sect_front.specs.declared.expected.Expected.TheVariants as expected
use Rattle.sect_front.specs.declared.cursor.Keyword.TheVariants as keyword

-- one sign may stand at this place, which no longer one begins with
abbrev pub IsSign : Expected → Type 0
IsSign expected.Semicolon = ⊤
IsSign expected.OpenParen = ⊤
IsSign expected.CloseParen = ⊤
IsSign _ = ⊥

abbrev pub sign_token : Expected → Token
sign_token expected.OpenParen = token.OpenParen
sign_token expected.CloseParen = token.CloseParen
sign_token _ = token.Semicolon

abbrev pub sign_byte : Expected → ℕ
sign_byte expected.OpenParen = 40
sign_byte expected.CloseParen = 41
sign_byte _ = 59

abbrev pub keyword_token : Keyword → Token
keyword_token keyword.Else = token.Else
keyword_token keyword.All = token.All
keyword_token keyword.ProtectedBy = token.ProtectedBy
