-- What a compiled program is to the machine.
use Rattle.std.specs.Prelude.{◌≡◌, ℕ, List, Some, length, slice_get}
use Rattle.sect_lemmas.specs.Lists.{Has}
use Rattle.sect_types.specs.{Sections.{SectionView, sections_of, AllNumbered}, Programs.{ProgramView}}
use Rattle.sect_names.specs.{declared.lock.Lock.{Lock}, Locks.{IsLockOf}, Schemes.{SchemeView, IsScheme}}
use Rattle.sect_names.specs.Records.{IsTypedProgram}
use Rattle.sect_names.specs.{Needed.{end_of, Protects, IsLeast}, Order.{AreInOrder}, Sources.{IsAccepted}}
use Rattle.sect_emit.specs.{declared.plan.Grip.{Grip}, Plan.{IsFixedPart}}

-- what inference knows of the program; the lock set of each section; the fixed part of each section's plan
pub record CompiledView : Type 0 where
  pub scheme : SchemeView
  pub sets : List (List Lock)
  pub parts : List (List Grip)

-- its program
abbrev pub program_of : CompiledView → ProgramView
program_of c = c.scheme.program

-- the statements fit the declarations, and sites and sections are numbered in text order; each set protects its
-- section, with locks that sections of its thread may take; each part is that of its set
pub record IsCompiled (c : CompiledView) : Type 0 where
  pub typed : IsTypedProgram c.scheme.program
  pub numbered : AllNumbered 0 c.scheme.program.texts
  pub scheme : IsScheme c.scheme
  pub set_count : length c.sets ≡ length (sections_of c.scheme.program.texts)
  pub part_count : length c.parts ≡ length (sections_of c.scheme.program.texts)
  pub protected : (i : ℕ) (section : SectionView) (locks : List Lock)
      → slice_get (sections_of c.scheme.program.texts) i ≡ Some section
      → slice_get c.sets i ≡ Some locks → Protects c.scheme section.thread (end_of c.scheme i) section.body locks
  pub lawful : (i : ℕ) (section : SectionView) (locks : List Lock) (l : Lock)
      → slice_get (sections_of c.scheme.program.texts) i ≡ Some section
      → slice_get c.sets i ≡ Some locks → Has locks l → IsLockOf c.scheme section.thread l
  pub planned : (i : ℕ) (locks : List Lock) (part : List Grip) → slice_get c.sets i ≡ Some locks
      → slice_get c.parts i ≡ Some part → IsFixedPart c.scheme locks part

-- each set is the least that protects its section, in canonical order
abbrev pub AreSetsLeast : CompiledView → Type 0
AreSetsLeast c =
    (i : ℕ) (section : SectionView) (locks : List Lock)
    → slice_get (sections_of c.scheme.program.texts) i ≡ Some section → slice_get c.sets i ≡ Some locks
    → IsLeast c.scheme section.thread (end_of c.scheme i) section.body locks × AreInOrder locks

-- the source text is accepted for paths of at most k fields, and this is its program, compiled with its least sets
pub record IsCompiledFrom (source : List ℕ) (k : ℕ) (c : CompiledView) : Type 0 where
  pub accepted : IsAccepted source k c.scheme
  pub compiled : IsCompiled c
  pub least : AreSetsLeast c
