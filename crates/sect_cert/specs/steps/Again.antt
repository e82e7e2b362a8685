-- Lines of nodes whose list is the one before.
use Rattle.std.specs.{Prelude.{◌≡◌, ℕ, List, [], ◌∷◌, ◌++◌, length, codes, ⊤}, Fmt.{decimal}}
use Rattle.sect_cert.specs.{Parts.{parts}, Lines.{line_text}, Texts.{IsLine}, declared.lock.CertLock.{CertLock}}
use Rattle.sect_cert.specs.declared.stage.CertStage.{CertStage}
use Rattle.sect_cert.specs.declared.line.CertLine.TheVariants as line
use Rattle.sect_cert.specs.declared.stage.CertStage.TheVariants as stage

-- a line of the node of this number goes on behind its colon as the line before
pub record RepeatsList (before text : List ℕ) (number : ℕ) : Type 0 where
  pub head : List ℕ
  pub list : List ℕ
  pub old : parts 58 before ≡ head ∷ parts 58 list
  pub new : text ≡ codes "node " ++ (decimal number ++ 58 ∷ list)

-- where a node's list was taken last, this is the text of its line
abbrev pub IsAfter : CertStage → List ℕ → Type 0
IsAfter (stage.Nodes o m ns) text =
    (front : List (List CertLock)) (last : List CertLock) → ns ≡ front ++ last ∷ []
    → (text ≡ line_text (line.Node (length front) last)) × IsLine (line.Node (length front) last)
IsAfter _ text = ⊤
