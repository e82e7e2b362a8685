-- How the tokens of a tree are printed.
use Rattle.std.specs.Prelude.{◌≡◌, ℕ, List, [], ◌∷◌, ◌++◌}
use Rattle.sect_front.specs.{TreeView.{TreeView}, Gaps.{line_feed}, Grammar.{tokens_of}, Spelling.{spelling_of}}
use Rattle.sect_front.specs.{Lexing.{Spells}, Faults.{tokens_in}, declared.token.Token.{Token}, TokenAt.{TokenAt}}
use Rattle.sect_front.specs.declared.token.Token.TheVariants as token

-- what stands between a token and the next: a line feed after `;`, `{` and `}`, and else a blank
abbrev pub separator : Token → ℕ
separator token.Semicolon = line_feed
separator token.OpenBrace = line_feed
separator token.CloseBrace = line_feed
separator _ = 32

-- the tokens with what stands between them, and a line feed at the end of a text that isn't empty
abbrev pub layout_of : List Token → List ℕ
layout_of [] = []
layout_of (t ∷ []) = spelling_of t ++ line_feed ∷ []
layout_of (t ∷ u ∷ w) = spelling_of t ++ separator t ∷ layout_of (u ∷ w)

-- the text spells the tokens of the tree
pub record IsTextOf (bytes : List ℕ) (tree : TreeView) : Type 0 where
  pub places : List TokenAt
  pub spells : Spells bytes places
  pub tokens : tokens_of tree ≡ tokens_in places
