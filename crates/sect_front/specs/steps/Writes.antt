-- What is added to a list of tokens.
use Rattle.std.specs.Prelude.{◌≡◌, List, ◌++◌}
use Rattle.sect_front.specs.declared.token.Token.{Token}

-- the list has gained these tokens, given before the tokens of what follows
abbrev pub Writes : List Token → List Token → (List Token → List Token) → Type 0
Writes old new f = (w : List Token) → new ++ w ≡ old ++ f w
