-- The tokens that a text spells, and the first place at which none stands.
use Rattle.std.specs.Prelude.{◌≡◌, ◌≢◌, ℕ, ◌+◌, ◌<◌, ◌≤◌, Bool, true, not, List, [], ◌∷◌, length, take, drop}
use Rattle.sect_front.specs.{Words.{is_name_byte, begins}, Gaps.{equals_sign, begins_with, after_gap}}
use Rattle.sect_front.specs.{Spelling.{IsSpelling}, declared.token.Token.{Token}, TokenAt.{TokenAt}}
use Rattle.sect_front.specs.declared.tree.Comparison.TheVariants as comparison
use Rattle.sect_front.specs.declared.token.Token.TheVariants as token

-- whether a token may stand directly before these bytes: `=` and `<` not before `=`, and a name, a keyword or an
-- integer not before a byte of names
abbrev pub stands : Token → List ℕ → Bool
stands token.OpenBrace rest = true
stands token.CloseBrace rest = true
stands token.OpenParen rest = true
stands token.CloseParen rest = true
stands token.Semicolon rest = true
stands token.Comma rest = true
stands token.Dot rest = true
stands token.Plus rest = true
stands token.Minus rest = true
stands token.Star rest = true
stands token.Equal rest = not (begins_with equals_sign rest)
stands (token.Comparison comparison.Less) rest = not (begins_with equals_sign rest)
stands (token.Comparison _) rest = true
stands _ rest = not (begins is_name_byte rest)

-- the token stands at the front, in the first n bytes
pub record IsFirst (t : Token) (n : ℕ) (bytes : List ℕ) : Type 0 where
  pub within : n ≤ length bytes
  pub some : 0 < n
  pub spells : IsSpelling t (take n bytes)
  pub free : stands t (drop n bytes) ≡ true

-- no token stands at the front
abbrev pub IsBad : List ℕ → Type 0
IsBad bytes = (t : Token) (n : ℕ) → IsFirst t n bytes → ⊥

-- these tokens stand at the front, each after a gap of blanks and comments, and the rest follows; the bytes are the
-- last ones of a text of so many, and each token's place is the offset of its first byte in that text
abbrev pub Reaches : ℕ → List ℕ → List TokenAt → List ℕ → Type 0
Reaches total bytes [] rest = bytes ≡ rest
Reaches total bytes (p ∷ ps) rest =
    (n : ℕ) × (p.at + length (after_gap bytes) ≡ total) × IsFirst p.token n (after_gap bytes)
    × Reaches total (drop n (after_gap bytes)) ps rest

-- the text spells these tokens, at these places, with gaps before, between and after them
abbrev pub Spells : List ℕ → List TokenAt → Type 0
Spells bytes places = (rest : List ℕ) × Reaches (length bytes) bytes places rest × (after_gap rest ≡ [])

-- no token stands at this place, and all that stands before it is tokens
pub record IsBadAt (bytes : List ℕ) (at : ℕ) : Type 0 where
  pub before : List TokenAt
  pub rest : List ℕ
  pub reaches : Reaches (length bytes) bytes before rest
  pub some : after_gap rest ≢ []
  pub bad : IsBad (after_gap rest)
  pub place : at + length (after_gap rest) ≡ length bytes
