-- The token at the front of a text, as it is looked for.
use Rattle.std.specs.Prelude.{ℕ, Bool, if◌then◌else◌, List, [], ◌∷◌, Option, Some, None, length, take_while}
use Rattle.sect_front.specs.{Words.{is_name_byte, begins}, Gaps.{begins_with}, declared.token.Token.{Token}}
use Rattle.sect_front.specs.steps.Recognition.{spelled, single_sign, double_sign}

abbrev pub with_length : ℕ → Option Token → Option (Token × ℕ)
with_length n None = None
with_length n (Some t) = Some (t, n)

-- two bytes where they are a sign, else one
abbrev pub longest : Option Token → Option Token → Option (Token × ℕ)
longest (Some t) o = Some (t, 2)
longest None o = with_length 1 o

-- the sign at the front, and how many bytes it has
abbrev pub sign_at : ℕ → List ℕ → Option (Token × ℕ)
sign_at b bs = longest (if begins_with 61 bs then double_sign b else None) (single_sign b)

abbrev pub begins_name : List ℕ → Bool
begins_name bytes = begins is_name_byte bytes

-- the token at the front, and how many bytes it has
abbrev pub lexeme_of : List ℕ → Option (Token × ℕ)
lexeme_of [] = None
lexeme_of (b ∷ bs) =
    if is_name_byte b
    then with_length (length (take_while is_name_byte (b ∷ bs))) (spelled (take_while is_name_byte (b ∷ bs)))
    else sign_at b bs
