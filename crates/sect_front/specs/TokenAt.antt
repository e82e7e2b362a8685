-- A token in its place.
use Rattle.std.specs.Prelude.{ℕ}
use Rattle.sect_front.specs.declared.token.Token.{Token}

-- a token, and the offset of its first byte in the text
pub record TokenAt : Type 0 where
  pub token : Token
  pub at : ℕ
