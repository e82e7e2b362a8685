-- What `locks` and `conflicts` answer where the numbers are explained. `verbose_answer` cites it.
use Rattle.std.specs.Prelude.{◌≡◌, ℕ, List, ◌++◌, Option, Some, None, length, codes}
use Rattle.std.specs.{List.{flat_map, range_with_len}, Fmt.{decimal}}
use Rattle.sect_front.specs.declared.span.Span.{Span}
use Rattle.sect_types.specs.Sections.{sections_of}
use Rattle.sect_places.specs.NodeSpans.{NodeSpansView, AreNodeSpans}
use Rattle.sect_lint.specs.Files.{place_mark}
use Rattle.sect_names.specs.Printing.{locks_text}
use Rattle.sect_emit.specs.Compiled.{CompiledView, IsCompiledFrom, program_of}
use Rattle.sect_conflicts.specs.{declared.conflict.SectionPair.{SectionPair}, Comparing.{AreConflicts}}
use Rattle.sect_conflicts.specs.Conflicts.{set_at}
use Rattle.sect_legend.specs.Legend.{AreClassLines, section_mark, site_names}
use Rattle.sect_answers.specs.{Conflicting.{conflict_text, heading}, declared.verbose.Verbose.{Verbose}}
use Rattle.sect_answers.specs.declared.verbose.Verbose.TheVariants.{Locks, Conflicts}

-- a section by its number, with its thread and where it stands
abbrev pub numbered : CompiledView → Option (List ℕ) → List ℕ → List Span → ℕ → List ℕ
numbered c mark source heads i = decimal i ++ codes " (" ++ section_mark c mark source heads i ++ codes ")"

-- the line of a section: itself, and its locks
abbrev pub set_line : CompiledView → Option (List ℕ) → List ℕ → List Span → ℕ → List ℕ
set_line c mark source heads i =
    codes "section " ++ numbered c mark source heads i ++ codes ": " ++ locks_text (program_of c).source (set_at c i)
    ++ codes "\n"

-- the line of two sections: both, and whether they exclude each other
abbrev pub two_line : CompiledView → Option (List ℕ) → List ℕ → List Span → SectionPair → List ℕ
two_line c mark source heads pair =
    codes "sections " ++ numbered c mark source heads pair.first ++ codes " and "
    ++ numbered c mark source heads pair.second ++ codes " " ++ conflict_text (program_of c) pair.conflict
    ++ codes "\n"

-- a line for each section, with its least set; or the heading, and a line for each pair of sections of two threads
abbrev pub AreLinesOf : Verbose → CompiledView → Option (List ℕ) → List ℕ → List Span → List ℕ → Type 0
AreLinesOf Locks c mark source heads bytes =
    bytes ≡ flat_map (set_line c mark source heads) (range_with_len 0 (length (sections_of (program_of c).texts)))
AreLinesOf Conflicts c mark source heads bytes =
    (pairs : List SectionPair) × AreConflicts c pairs
    × (bytes ≡ heading pairs ++ flat_map (two_line c mark source heads) pairs)

-- what stands before line and column, where the text has a file
abbrev pub file_mark : Option (List ℕ) → Option (List ℕ)
file_mark None = None
file_mark (Some file) = Some (place_mark (Some file))

-- these lines, and then a line for each class
pub record IsExplained (file : Option (List ℕ)) (source : List ℕ) (c : CompiledView) (of : Verbose) (bytes : List ℕ)
    : Type 0 where
  pub spans : NodeSpansView
  pub placed : AreNodeSpans source (program_of c) spans
  pub lines : List ℕ
  pub told : AreLinesOf of c (file_mark file) source spans.heads lines
  pub classes : List ℕ
  pub listed : AreClassLines c.scheme.classes.numbers (site_names c (file_mark file) source spans.sections) classes
  pub printed : bytes ≡ lines ++ classes

-- the text of this file is accepted, and the bytes say this of its compiled program
pub record IsVerboseAnswer (file : Option (List ℕ)) (source : List ℕ) (k : ℕ) (of : Verbose) (bytes : List ℕ)
    : Type 0 where
  pub compiled : CompiledView
  pub from : IsCompiledFrom source k compiled
  pub explained : IsExplained file source compiled of bytes
