-- Tokens as text, one after another.
use Rattle.std.specs.Prelude.{ℕ, List, [], ◌∷◌, ◌++◌}
use Rattle.sect_front.specs.{Spelling.{spelling_of}, Layout.{separator}, declared.token.Token.{Token}}

-- each token with what stands behind it
abbrev pub spread : List Token → List ℕ
spread [] = []
spread (t ∷ w) = spelling_of t ++ separator t ∷ spread w
