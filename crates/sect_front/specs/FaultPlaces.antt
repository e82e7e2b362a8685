-- Where a fault stands.
use Rattle.std.specs.Prelude.{◌≡◌, ◌≤◌, ℕ, ◌+◌, ◌-◌, List, [], ◌∷◌, ◌++◌, Some, ⊤, length, take, drop, take_while, fold}
use Rattle.std.specs.Prelude.{slice_get}
use Rattle.sect_front.specs.{Words.{is_name_byte}, Spelling.{spelling_of}, Lexing.{Spells, IsBadAt}}
use Rattle.sect_front.specs.{Faults.{tokens_in, IsUnexpectedAt, IsTooDeepAt}, Front.{line_of}, Expected.{AreExpectedAt}}
use Rattle.sect_front.specs.{TokenAt.{TokenAt}, declared.span.Span.{Span}, declared.token.Token.{Token}}
use Rattle.sect_front.specs.{declared.token_kind.TokenKind.{TokenKind}, declared.parsing.FrontFault.{FrontFault}}
use Rattle.sect_front.specs.declared.token.Token.TheVariants as token
use Rattle.sect_front.specs.declared.parsing.FrontFault.TheVariants as fault

-- so many bytes from a place on
abbrev pub span_from : ℕ → ℕ → Span
span_from at count = record { start = at; end = at + count }

-- all bytes are those of a text of so many
abbrev pub IsWithin : ℕ → Span → Type 0
IsWithin total span = (span.start ≤ span.end) × (span.end ≤ total)

-- the bytes of a token
abbrev pub token_span : TokenAt → Span
token_span p = span_from p.at (length (spelling_of p.token))

-- the bytes from a place on that may stand in a name
abbrev pub word_span : List ℕ → ℕ → Span
word_span bytes at = span_from at (length (take_while is_name_byte (drop at bytes)))

-- the text spells tokens, this holds of one of them by its number, and these are its bytes
pub record IsTokenSpan (holds : List Token → ℕ → Type 0) (bytes : List ℕ) (span : Span) : Type 0 where
  pub places : List TokenAt
  pub spells : Spells bytes places
  pub index : ℕ
  pub token : TokenAt
  pub found : slice_get places index ≡ Some token
  pub fault : holds (tokens_in places) index
  pub is : span ≡ token_span token

-- the fault stands at these bytes, and the line that it names is that of their first: one byte where no token can
-- begin, else the whole word that is no integer or no name; the token that can't stand where it does; the last byte of
-- a text that ends too early; the first byte of one that is too long
abbrev pub IsFaultSpan : List ℕ → FrontFault → Span → Type 0
IsFaultSpan bytes fault.TooLarge span = span ≡ span_from 0 1
IsFaultSpan bytes (fault.BadByte line) span =
    IsBadAt bytes span.start × (span ≡ span_from span.start 1) × (line ≡ line_of bytes span.start)
IsFaultSpan bytes (fault.BadNumber line) span =
    IsBadAt bytes span.start × (span ≡ word_span bytes span.start) × (line ≡ line_of bytes span.start)
IsFaultSpan bytes (fault.LongName line) span =
    IsBadAt bytes span.start × (span ≡ word_span bytes span.start) × (line ≡ line_of bytes span.start)
IsFaultSpan bytes (fault.Unexpected line) span =
    IsTokenSpan IsUnexpectedAt bytes span × (line ≡ line_of bytes span.start)
IsFaultSpan bytes (fault.TooDeep line) span = IsTokenSpan IsTooDeepAt bytes span × (line ≡ line_of bytes span.start)
IsFaultSpan bytes (fault.UnexpectedEnd line) span =
    (span ≡ record { start = length bytes - 1; end = length bytes }) × (line ≡ line_of bytes span.start)
IsFaultSpan bytes fault.Memory span = ⊤

-- of a token that can't stand where it does the kinds that may, and of any other fault none
abbrev pub AreKindsFor : List ℕ → FrontFault → Span → List TokenKind → Type 0
AreKindsFor bytes (fault.Unexpected line) span kinds = AreExpectedAt bytes span.start kinds
AreKindsFor bytes _ span kinds = kinds ≡ []

-- the places of the braces that are open, the innermost last, behind one more token that stands at this place
abbrev pub open_behind : ℕ → List ℕ → Token → List ℕ
open_behind at braces token.OpenBrace = braces ++ at ∷ []
open_behind at braces token.CloseBrace = take (length braces - 1) braces
open_behind at braces _ = braces

-- the places of the braces that are open behind all of these tokens
abbrev pub open_braces : List TokenAt → List ℕ
open_braces places = fold (λ (braces : List ℕ) (p : TokenAt). open_behind p.at braces p.token) [] places
