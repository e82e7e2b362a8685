-- Which tokens are names.
use Rattle.std.specs.Prelude.{Bool, true, false}
use Rattle.sect_front.specs.declared.token.Token.{Token}
use Rattle.sect_front.specs.declared.token.Token.TheVariants as token

abbrev pub is_name_token : Token → Bool
is_name_token (token.Name x) = true
is_name_token _ = false
