-- Whole programs can be read back.
use Rattle.std.specs.{Prelude.{◌≡◌, ◌<◌, ℕ, [], length, map, nat_eq, slice_index_or}, List.{AllByRecursion}}
use Rattle.sect_types.specs.{Programs.{ProgramView, IsOfTree, IsWithinLimits, AreRecordsThere}, Statements.{TextView}}
use Rattle.sect_types.specs.{Sections.{SectionView, sections_of}, declared.expansion.action.Field.{Field}}
use Rattle.sect_graph.specs.Layout.{flow_nodes}
use Rattle.sect_names.specs.Printing.{global_name, field_name, local_at}
use Rattle.sect_emit.specs.{Compiled.{CompiledView, IsCompiled, program_of}, Labels.{record_name}}
use Rattle.sect_conflicts.specs.Taken.{TakenView, AreTaken}
use Rattle.sect_c.specs.{Told.{AreNames, NamesTell}, Short.{AreShort}, Said.{node_said}, Pairs.{PairsFrom}}
use Rattle.sect_c.specs.Programs.{c_text}

-- the sections of thread u are alike: those that it has in one program it has in the other, with the same paths, and
-- with nodes that do the same
pub record IsOneSection (taken given : TakenView) (u i : ℕ) (s t : SectionView) : Type 0 where
  pub of : nat_eq s.thread u ≡ nat_eq t.thread u
  pub paths : s.thread ≡ u → slice_index_or taken.paths i [] ≡ slice_index_or given.paths i []
  pub graph : s.thread ≡ u → map node_said (flow_nodes s.body) ≡ map node_said (flow_nodes t.body)

-- thread u is the same in both programs: its locals and their names, what its nodes do, and its sections
pub record IsOneThread (c d : CompiledView) (taken given : TakenView) (u : ℕ) (x y : TextView) : Type 0 where
  pub locals : slice_index_or (program_of c).locals u [] ≡ slice_index_or (program_of d).locals u []
  pub names : (n : ℕ) → n < length (slice_index_or (program_of d).locals u [])
      → (local_at (program_of c).source u n).name ≡ (local_at (program_of d).source u n).name
  pub graph : map node_said (flow_nodes x) ≡ map node_said (flow_nodes y)
  pub sections : PairsFrom (IsOneSection taken given u) 0 (sections_of (program_of c).texts)
      (sections_of (program_of d).texts)

-- two programs declare the same, by the same names
pub record TopsAlike (p q : ProgramView) : Type 0 where
  pub records : p.records ≡ q.records
  pub globals : p.globals ≡ q.globals
  pub record_names : (r : ℕ) → record_name p.source r ≡ record_name q.source r
  pub global_names : (g : ℕ) → global_name p.source g ≡ global_name q.source g
  pub field_names : (f : Field) → field_name p.source f ≡ field_name q.source f

-- a compiled program of an accepted text, whose sections take these keys: its numbers are those of its tree, its names
-- are names and tell what they name, its counts are within the limits, each reference has its record, and its integers
-- have 63 bits
pub record IsWritten (c : CompiledView) (taken : TakenView) : Type 0 where
  pub compiled : IsCompiled c
  pub tree : IsOfTree (program_of c)
  pub keys : AreTaken c taken
  pub limits : IsWithinLimits (program_of c)
  pub there : AreRecordsThere (program_of c)
  pub names : AreNames (program_of c).source
  pub tell : NamesTell (program_of c)
  pub short : AllByRecursion AreShort (program_of c).texts

-- the programs are one, and take the same keys: they declare the same, the sections take the same keys in every state,
-- and the threads are the same
pub record AreOneProgram (c d : CompiledView) (taken given : TakenView) : Type 0 where
  pub tops : TopsAlike (program_of c) (program_of d)
  pub parts : taken.parts ≡ given.parts
  pub threads : PairsFrom (IsOneThread c d taken given) 0 (program_of c).texts (program_of d).texts

-- programs with one text are one
abbrev pub TextsTellPrograms : Type 0
TextsTellPrograms =
    (c d : CompiledView) (taken given : TakenView) → IsWritten c taken → IsWritten d given
    → c_text c taken ≡ c_text d given → AreOneProgram c d taken given
