-- Where tokens stop to be those of a tree.
use Rattle.std.specs.Prelude.{◌≡◌, ◌≢◌, ℕ, ◌+◌, ◌<◌, ◌≤◌, List, ◌++◌, take, length, map}
use Rattle.sect_front.specs.{Limits.{most_depth}, Grammar.{tokens_of}, TreeView.{TreeView}, Depth.{depth}}
use Rattle.sect_front.specs.{Braces.{open_after, IsShallow}, declared.token.Token.{Token}, TokenAt.{TokenAt}}

-- the tokens without their places
abbrev pub tokens_in : List TokenAt → List Token
tokens_in places = map (λ p. p.token) places

-- the tokens of some tree, of any depth, begin so; it makes no difference that a tree here may have any bytes as a name
-- and any number as an integer, since what follows may be finished with others
abbrev pub IsViable : List Token → Type 0
IsViable front = (tree : TreeView) × (rest : List Token) × (tokens_of tree ≡ front ++ rest)

-- these are the tokens of the tree, and no block is deeper than the limit
pub record IsTree (list : List Token) (tree : TreeView) : Type 0 where
  pub tokens : tokens_of tree ≡ list
  pub shallow : depth tree ≤ most_depth

-- up to this token the list is viable and with it it isn't, and no token before it opened a brace too many
pub record IsUnexpectedAt (list : List Token) (i : ℕ) : Type 0 where
  pub within : i < length list
  pub before : IsViable (take i list)
  pub here : IsViable (take (i + 1) list) → ⊥
  pub shallow : IsShallow (take i list)

-- this token opens a brace too many, in a list that is viable with it, and no token before it did
pub record IsTooDeepAt (list : List Token) (i : ℕ) : Type 0 where
  pub within : i < length list
  pub here : IsViable (take (i + 1) list)
  pub deep : open_after 0 (take (i + 1) list) ≡ most_depth + 1
  pub shallow : IsShallow (take i list)

-- the list is viable and no tree's, and no token opened a brace too many
pub record IsUnfinished (list : List Token) : Type 0 where
  pub viable : IsViable list
  pub none : (tree : TreeView) → tokens_of tree ≢ list
  pub shallow : IsShallow list
