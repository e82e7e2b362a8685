-- What the command `explain` answers to a source text. `program_explanation` cites it.
use Rattle.std.specs.Prelude.{ℕ, List}
use Rattle.sect_places.specs.{declared.lines.NodeLine.{NodeLine}, NodeLines.{AreNodeLines}}
use Rattle.sect_emit.specs.{Compiled.{CompiledView, IsCompiledFrom, program_of}, Explaining.{IsExplanation}}
use Rattle.sect_json.specs.Explaining.{IsExplanationDocument}
use Rattle.sect_answers.specs.{declared.format.Format.{Format}, declared.format.Format.TheVariants.{Text, Json}}

-- the bytes are the lines of all sections, each step with the line of the text that it comes from
pub record IsPlacedExplanation (source : List ℕ) (c : CompiledView) (bytes : List ℕ) : Type 0 where
  pub lines : List (List NodeLine)
  pub placed : AreNodeLines source (program_of c) lines
  pub explains : IsExplanation c lines bytes

-- the bytes are the lines of all sections, or their document
abbrev pub IsExplanationPrinted : List ℕ → CompiledView → Format → List ℕ → Type 0
IsExplanationPrinted source c Text bytes = IsPlacedExplanation source c bytes
IsExplanationPrinted source c Json bytes = IsExplanationDocument c bytes

-- the source is accepted, and the bytes say of its compiled program why each section takes its locks
pub record IsProgramExplanation (source : List ℕ) (k : ℕ) (format : Format) (bytes : List ℕ) : Type 0 where
  pub compiled : CompiledView
  pub from : IsCompiledFrom source k compiled
  pub explains : IsExplanationPrinted source compiled format bytes
