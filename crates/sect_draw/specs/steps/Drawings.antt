-- A section that is drawn. `put_cluster` and what it calls cite it.
use Rattle.std.specs.Prelude.{◌≡◌, ◌<◌, ◌+◌, ℕ, List, Option, Some, length, slice_get}
use Rattle.sect_types.specs.{Programs.{ProgramView}, Sections.{sections_of}}
use Rattle.sect_graph.specs.Layout.{flow_nodes}
use Rattle.sect_names.specs.{Printing.{IsNamed, AreNamed}, declared.lock.Lock.{Lock}}
use Rattle.sect_emit.specs.{Compiled.{program_of}, Explaining.{section_at}}
use Rattle.sect_draw.specs.declared.graphing.Drawing.{Drawing}

-- what these locks name is there
abbrev pub AreNamedLocks : ProgramView → List (Option Lock) → Type 0
AreNamedLocks p generated =
    (n : ℕ) (own : Option Lock) → slice_get generated n ≡ Some own → (l : Lock) → own ≡ Some l → IsNamed p l

-- it is a section of the program, with a list of locks for each node, and what each node generates
pub record IsDrawing (d : Drawing) : Type 0 where
  pub section : d.section < length (sections_of (program_of d.compiled.now).texts)
  pub needed : length d.locks.now.at ≡ length (flow_nodes (section_at d.compiled.now d.section).body) + 1
  pub named : (n : ℕ) (locks : List Lock) → slice_get d.locks.now.at n ≡ Some locks
      → AreNamed (program_of d.compiled.now) locks
  pub generated : length d.generated.now ≡ length (flow_nodes (section_at d.compiled.now d.section).body) + 1
  pub own_named : AreNamedLocks (program_of d.compiled.now) d.generated.now
