-- What a reading of a text answers.
use Rattle.std.specs.Prelude.{◌≡◌, ℕ, ◌≤◌, List, ◌++◌, Some, ⊤, length, slice_get}
use Rattle.sect_front.specs.{TokenAt.{TokenAt}, Gaps.{after_gap}}
use Rattle.sect_front.specs.{Lexing.{Reaches, Spells, IsBadAt}, Expected.{AreExpectedAt}, FaultPlaces.{token_span}}
use Rattle.sect_front.specs.Faults.{tokens_in, IsUnexpectedAt, IsTooDeepAt, IsUnfinished}
use Rattle.sect_front.specs.{declared.span.Span.{Span}, declared.token.Token.{Token}}
use Rattle.sect_front.specs.declared.reading.ReadFault.{ReadFault}
use Rattle.sect_front.specs.declared.reading.ReadFault.TheVariants as fault

-- these tokens have been read, and here the next one stands
pub record Reached (bytes : List ℕ) (before : List TokenAt) (here : List ℕ) : Type 0 where
  pub rest : List ℕ
  pub reaches : Reaches (length bytes) bytes before rest
  pub gap : after_gap rest ≡ here
  pub fits : length here ≤ length bytes

-- the text spells tokens, and this holds of them
pub record Spelling (bytes : List ℕ) (holds : List Token → Type 0) : Type 0 where
  pub places : List TokenAt
  pub spells : Spells bytes places
  pub is : holds (tokens_in places)

-- the text spells tokens, one of them has these bytes, and this holds of it by its number
pub record SpellingAt (bytes : List ℕ) (span : Span) (holds : List Token → ℕ → Type 0) : Type 0 where
  pub places : List TokenAt
  pub spells : Spells bytes places
  pub index : ℕ
  pub token : TokenAt
  pub found : slice_get places index ≡ Some token
  pub is : holds (tokens_in places) index
  pub place : span ≡ token_span token
  pub within : span.end ≤ length bytes

-- the fault is the text's first
abbrev pub IsReadFault : List ℕ → ReadFault → Type 0
IsReadFault bytes (fault.Bad at) = IsBadAt bytes at
IsReadFault bytes (fault.Unexpected span kinds) =
    SpellingAt bytes span IsUnexpectedAt × AreExpectedAt bytes span.start kinds.items
IsReadFault bytes (fault.TooDeep span) = SpellingAt bytes span IsTooDeepAt
IsReadFault bytes fault.Unfinished = Spelling bytes IsUnfinished
IsReadFault bytes fault.Memory = ⊤

-- the answer is the text's first fault, if the given one is wherever more tokens follow these up to the text's end
abbrev pub IsAnswerOf : List ℕ → List TokenAt → ReadFault → ReadFault → Type 0
IsAnswerOf bytes before given answer =
    ((behind : List TokenAt) → Spells bytes (before ++ behind) → IsReadFault bytes given) → IsReadFault bytes answer
