-- Why tokens are those of no tree.
use Rattle.std.specs.Prelude.{ℕ, List, Result, Ok, Err}
use Rattle.sect_front.specs.{TreeView.{TreeView}, Faults.{IsTree, IsUnexpectedAt, IsTooDeepAt, IsUnfinished}}
use Rattle.sect_front.specs.declared.token.Token.{Token}

-- two have the number of a token
pub data TokenFault : Type 0 where
  Unexpected : ℕ → TokenFault
  TooDeep : ℕ → TokenFault
  Unfinished : TokenFault

-- the fault is the first of these tokens
abbrev pub IsTokenFault : List Token → TokenFault → Type 0
IsTokenFault list (Unexpected i) = IsUnexpectedAt list i
IsTokenFault list (TooDeep i) = IsTooDeepAt list i
IsTokenFault list Unfinished = IsUnfinished list

-- of tokens, their tree or the first of them at which there is none
abbrev pub JudgesTokens : List Token → Result TreeView TokenFault → Type 0
JudgesTokens list (Ok tree) = IsTree list tree
JudgesTokens list (Err e) = IsTokenFault list e
