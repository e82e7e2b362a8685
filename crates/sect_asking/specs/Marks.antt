-- The marks that questions are made of, and how they are spelled.
use Rattle.std.specs.Prelude.{◌≡◌, ℕ, ◌<◌, ◌≤◌, Bool, true, not, nat_lt, List, length, take, drop, codes}
use Rattle.std.specs.Fmt.{decimal}
use Rattle.sect_front.specs.{Words.{is_name, is_name_byte, begins}, Gaps.{equals_sign, begins_with}}
use Rattle.sect_asking.specs.{declared.mark.Mark.{Mark}, declared.mark.Sign.{Sign}}
use Rattle.sect_asking.specs.declared.mark.Mark.TheVariants as mark
use Rattle.sect_asking.specs.declared.mark.Sign.TheVariants as sign

abbrev pub sign_spelling : Sign → List ℕ
sign_spelling sign.Null = codes "null"
sign_spelling sign.Print = codes "print"
sign_spelling sign.Thread = codes "thread"
sign_spelling sign.Equal = codes "=="
sign_spelling sign.NotEqual = codes "!="
sign_spelling sign.Less = codes "<"
sign_spelling sign.LessOrEqual = codes "<="
sign_spelling sign.Greater = codes ">"
sign_spelling sign.GreaterOrEqual = codes ">="
sign_spelling sign.Plus = codes "+"
sign_spelling sign.Minus = codes "-"
sign_spelling sign.Star = codes "*"
sign_spelling sign.Dot = codes "."
sign_spelling sign.Comma = codes ","
sign_spelling sign.OpenParen = codes "("
sign_spelling sign.CloseParen = codes ")"
sign_spelling sign.OpenBracket = codes "["
sign_spelling sign.CloseBracket = codes "]"
sign_spelling sign.Hash = codes "#"
sign_spelling sign.Not = codes "!"
sign_spelling sign.And = codes "&&"
sign_spelling sign.Or = codes "||"

-- a name by its bytes, an integer in decimal digits without a leading zero, a sign or keyword by itself
abbrev pub spelling_of : Mark → List ℕ
spelling_of (mark.Name n) = n
spelling_of (mark.Number n) = decimal n
spelling_of (mark.Sign s) = sign_spelling s

-- a name is a name of the language, and an integer is at most 9223372036854775807
abbrev pub is_proper : Mark → Bool
is_proper (mark.Name n) = is_name n
is_proper (mark.Number n) = nat_lt n 9223372036854775808
is_proper (mark.Sign s) = true

-- whether a sign may stand directly before these bytes: `<`, `>` and `!` not before `=`, and a keyword not before a
-- byte of names
abbrev pub sign_stands : Sign → List ℕ → Bool
sign_stands sign.Null rest = not (begins is_name_byte rest)
sign_stands sign.Print rest = not (begins is_name_byte rest)
sign_stands sign.Thread rest = not (begins is_name_byte rest)
sign_stands sign.Less rest = not (begins_with equals_sign rest)
sign_stands sign.Greater rest = not (begins_with equals_sign rest)
sign_stands sign.Not rest = not (begins_with equals_sign rest)
sign_stands _ rest = true

-- nor a name or an integer
abbrev pub stands : Mark → List ℕ → Bool
stands (mark.Name n) rest = not (begins is_name_byte rest)
stands (mark.Number n) rest = not (begins is_name_byte rest)
stands (mark.Sign s) rest = sign_stands s rest

-- the mark stands at the front, in the first n bytes
pub record IsFirst (m : Mark) (n : ℕ) (bytes : List ℕ) : Type 0 where
  pub within : n ≤ length bytes
  pub some : 0 < n
  pub spelled : take n bytes ≡ spelling_of m
  pub proper : is_proper m ≡ true
  pub free : stands m (drop n bytes) ≡ true
