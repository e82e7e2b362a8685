-- What the command `graph` answers to a source text. `program_graph` cites it.
use Rattle.std.specs.Prelude.{◌≡◌, ◌≤◌, ◌<◌, ⊤, ℕ, List, Option, Some, None, length}
use Rattle.sect_types.specs.Sections.{sections_of}
use Rattle.sect_names.specs.{Schemes.{SchemeView}, Sources.{IsAccepted}}
use Rattle.sect_emit.specs.Compiled.{CompiledView, IsCompiledFrom, program_of}
use Rattle.sect_draw.specs.Graphs.{IsGraph}
use Rattle.sect_answers.specs.{Answers.{IsDue}, declared.refusal.Refusal.{Refusal}}
use Rattle.sect_answers.specs.declared.refusal.Refusal.TheVariants as refusal

-- the bytes are the graph of all sections, or of the one that is asked for
abbrev pub IsGraphOf : CompiledView → Option ℕ → List ℕ → Type 0
IsGraphOf c None bytes = IsGraph c 0 (length (sections_of (program_of c).texts)) bytes
IsGraphOf c (Some i) bytes = (i < length (sections_of (program_of c).texts)) × IsGraph c i 1 bytes

-- the source is accepted, and the bytes are the graph of its compiled program
pub record IsProgramGraph (source : List ℕ) (k : ℕ) (section : Option ℕ) (bytes : List ℕ) : Type 0 where
  pub compiled : CompiledView
  pub from : IsCompiledFrom source k compiled
  pub graph : IsGraphOf compiled section bytes

-- the section that is asked for, if any, is one of the program
abbrev pub HasSection : SchemeView → Option ℕ → Type 0
HasSection s None = ⊤
HasSection s (Some i) = i < length (sections_of s.program.texts)

-- the refusal is due: the text is judged first, and then the number of the section
abbrev pub IsGraphDue : List ℕ → ℕ → Option ℕ → Refusal → Type 0
IsGraphDue bytes k section (refusal.Section i) =
    (section ≡ Some i) × ((s : SchemeView) × IsAccepted bytes k s × (length (sections_of s.program.texts) ≤ i))
IsGraphDue bytes k section r = IsDue bytes k r
