-- How many braces are open in a list of tokens.
use Rattle.std.specs.Prelude.{ℕ, ◌+◌, ◌-◌, ◌≤◌, List, [], ◌∷◌, take, length}
use Rattle.sect_front.specs.{Limits.{most_depth}, declared.token.Token.{Token}}
use Rattle.sect_front.specs.declared.token.Token.TheVariants as token

-- the braces that are open after a token
abbrev pub brace : ℕ → Token → ℕ
brace n token.OpenBrace = n + 1
brace n token.CloseBrace = n - 1
brace n _ = n

-- the braces that are open after these tokens, where so many were open before them
abbrev pub open_after : ℕ → List Token → ℕ
open_after n [] = n
open_after n (t ∷ w) = open_after (brace n t) w

-- never more braces than the limit are open
abbrev pub IsShallow : List Token → Type 0
IsShallow list = (j : ℕ) → j ≤ length list → open_after 0 (take j list) ≤ most_depth
