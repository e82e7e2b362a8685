-- What a source text is, and where it stops to be one.
use Rattle.std.specs.Prelude.{◌≡◌, ℕ, ◌+◌, ◌-◌, ◌<◌, ◌≤◌, ◌==◌, Bool, true, false, List, Result, Ok, Err, ⊤, length}
use Rattle.std.specs.Prelude.{take, drop, count_by, slice_get, Some}
use Rattle.sect_front.specs.{Limits.{most_bytes}, Words.{is_letter, is_digit, begins}, Gaps.{line_feed}}
use Rattle.sect_front.specs.{Lexing.{Spells, IsBadAt}, TreeView.{TreeView}}
use Rattle.sect_front.specs.{Faults.{tokens_in, IsTree, IsUnexpectedAt, IsTooDeepAt, IsUnfinished}, TokenAt.{TokenAt}}
use Rattle.sect_front.specs.declared.parsing.FrontFault.{FrontFault}
use Rattle.sect_front.specs.declared.parsing.FrontFault.TheVariants as fault

-- the text spells this tree
pub record IsSpelled (bytes : List ℕ) (tree : TreeView) : Type 0 where
  pub fits : length bytes ≤ most_bytes
  pub places : List TokenAt
  pub spells : Spells bytes places
  pub parses : IsTree (tokens_in places) tree

-- the line of a place: one plus the line feeds before it
abbrev pub line_of : List ℕ → ℕ → ℕ
line_of bytes at = count_by (λ b. b == line_feed) (take at bytes) + 1

-- there is a first bad lexeme, it begins so, and it stands on this line
pub record IsBadOn (bytes : List ℕ) (line : ℕ) (letter digit : Bool) : Type 0 where
  pub fits : length bytes ≤ most_bytes
  pub at : ℕ
  pub bad : IsBadAt bytes at
  pub letter_first : begins is_letter (drop at bytes) ≡ letter
  pub digit_first : begins is_digit (drop at bytes) ≡ digit
  pub place : line ≡ line_of bytes at

-- the text spells tokens, this holds of one of them by its number, and that one stands on this line
pub record IsTokenOn (holds : List TokenAt → ℕ → Type 0) (bytes : List ℕ) (line : ℕ) : Type 0 where
  pub fits : length bytes ≤ most_bytes
  pub places : List TokenAt
  pub spells : Spells bytes places
  pub index : ℕ
  pub token : TokenAt
  pub found : slice_get places index ≡ Some token
  pub fault : holds places index
  pub place : line ≡ line_of bytes token.at

-- the text spells tokens that end too early, and this is the line of its last byte
pub record IsEndOn (bytes : List ℕ) (line : ℕ) : Type 0 where
  pub fits : length bytes ≤ most_bytes
  pub places : List TokenAt
  pub spells : Spells bytes places
  pub fault : IsUnfinished (tokens_in places)
  pub place : line ≡ line_of bytes (length bytes - 1)

-- the fault is the text's first, and it stands on its line
abbrev pub IsFault : List ℕ → FrontFault → Type 0
IsFault bytes fault.TooLarge = most_bytes < length bytes
IsFault bytes (fault.BadByte line) = IsBadOn bytes line false false
IsFault bytes (fault.BadNumber line) = IsBadOn bytes line false true
IsFault bytes (fault.LongName line) = IsBadOn bytes line true false
IsFault bytes (fault.Unexpected line) = IsTokenOn (λ ps i. IsUnexpectedAt (tokens_in ps) i) bytes line
IsFault bytes (fault.TooDeep line) = IsTokenOn (λ ps i. IsTooDeepAt (tokens_in ps) i) bytes line
IsFault bytes (fault.UnexpectedEnd line) = IsEndOn bytes line
IsFault bytes fault.Memory = ⊤

-- what a reading of the text answers
abbrev pub Judges : List ℕ → Result TreeView FrontFault → Type 0
Judges bytes (Ok tree) = IsSpelled bytes tree
Judges bytes (Err e) = IsFault bytes e

-- the tree is given, unless memory ran out
abbrev pub Gives : TreeView → Result TreeView FrontFault → Type 0
Gives tree (Ok given) = given ≡ tree
Gives tree (Err fault.Memory) = ⊤
Gives tree (Err _) = ⊥

-- this fault is the answer, unless memory ran out
abbrev pub Refuses : FrontFault → Result TreeView FrontFault → Type 0
Refuses e (Ok tree) = ⊥
Refuses e (Err fault.Memory) = ⊤
Refuses e (Err given) = given ≡ e
