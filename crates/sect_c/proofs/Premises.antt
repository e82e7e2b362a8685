-- What a program's text asks of it to be read back: programs of accepted texts meet it.
use Rattle.std.proofs.Common.{◌≡◌, ◌<◌, ◌≤◌, ℕ, List, [], length, slice_index_or}
use Rattle.std.specs.List.{AllByRecursion}
use Rattle.sect_types.specs.Programs.{ProgramView, sites_of}
use Rattle.sect_types.specs.{Environments.{IsInRange}, Sections.{SectionView, sections_of}}
use Rattle.sect_types.specs.declared.expansion.action.Field.{Field}
use Rattle.sect_types.specs.declared.declarations.types.ValueType.{ValueType}
use Rattle.sect_graph.specs.{declared.flow.Node.{Node}, Layout.{flow_nodes}}
use Rattle.sect_names.specs.Printing.{global_name, field_name}
use Rattle.sect_emit.specs.{Compiled.{CompiledView, program_of}, Labels.{record_name}}
use Rattle.sect_conflicts.specs.Taken.{TakenView}
use Rattle.sect_c.specs.{Told.{AreNames, NamesTell}, Fits.{FitsNode}, Back.{FitsLock, IsShown, AreWhole}}
use Rattle.sect_c.specs.Pairs.{EachFrom}

-- the record of a reference is there
abbrev pub IsThere : ProgramView → ValueType → Type 0
IsThere p of = IsInRange (length p.records) of

-- what isn't there has no name
pub record NamesEnd (p : ProgramView) : Type 0 where
  pub records : (r : ℕ) → length p.records ≤ r → record_name p.source r ≡ []
  pub globals : (g : ℕ) → length p.globals ≤ g → global_name p.source g ≡ []
  pub fields : (f : Field) → length (slice_index_or p.records f.of []) ≤ f.number → field_name p.source f ≡ []

-- a graph of thread u whose text says what it is
pub record FitsGraph (p : ProgramView) (u : ℕ) (nodes : List Node) : Type 0 where
  pub few : length nodes < 65536
  pub each : AllByRecursion (FitsNode p u) nodes

-- a section whose text says what it is
pub record FitsSection (c : CompiledView) (taken : TakenView) (i : ℕ) (s : SectionView) : Type 0 where
  pub number : i < 65536
  pub locks : AllByRecursion IsShown (slice_index_or c.sets i [])
  pub paths : AllByRecursion (FitsLock (program_of c) s.thread) (slice_index_or taken.paths i [])
  pub graph : FitsGraph (program_of c) s.thread (flow_nodes s.body)

-- a program whose text says what it is
pub record IsLegible (c : CompiledView) (taken : TakenView) : Type 0 where
  pub names : AreNames (program_of c).source
  pub tell : NamesTell (program_of c)
  pub ends : NamesEnd (program_of c)
  pub records : AllByRecursion (λ fields. AllByRecursion (IsThere (program_of c)) fields) (program_of c).records
  pub globals : AllByRecursion (λ r. r < 65536) (program_of c).globals
  pub locals : (u : ℕ) → AllByRecursion (IsThere (program_of c)) (slice_index_or (program_of c).locals u [])
  pub sites : length (sites_of (program_of c).globals (program_of c).texts) < 65536
  pub count : length taken.parts ≡ length (sections_of (program_of c).texts)
  pub parts : EachFrom (λ i part. (i < 65536) × AreWhole part) 0 taken.parts
  pub threads : EachFrom (λ u text. FitsGraph (program_of c) u (flow_nodes text)) 0 (program_of c).texts
  pub sections : EachFrom (FitsSection c taken) 0 (sections_of (program_of c).texts)
