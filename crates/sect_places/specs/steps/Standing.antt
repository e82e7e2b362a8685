-- Where a token of a text stands.
use Rattle.std.specs.Prelude.{◌≡◌, ℕ, ◌+◌, List, length, drop}
use Rattle.sect_front.specs.{TreeView.{TreeView}, Front.{IsSpelled}, Gaps.{after_gap}, LongGaps.{IsRestOf}}
use Rattle.sect_front.specs.Lexing.{Reaches}

-- the text spells the tree, and the token of this number stands here, or where there is none so many have passed
pub record StandsFrom (bytes : List ℕ) (tree : TreeView) (number : ℕ) (here : List ℕ) : Type 0 where
  pub spelled : IsSpelled bytes tree
  pub before : List ℕ
  pub last : List ℕ
  pub reaches : Reaches (length bytes) before (drop number spelled.places) last
  pub gap : after_gap before ≡ here
  pub rest : IsRestOf bytes here

-- so many tokens before the one of this number a token stands here, or where there is none all have passed
abbrev pub IsSought : List ℕ → TreeView → ℕ → List ℕ → ℕ → Type 0
IsSought bytes tree number here left = (n : ℕ) × (n + left ≡ number) × StandsFrom bytes tree n here
