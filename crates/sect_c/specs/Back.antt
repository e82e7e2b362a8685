-- What can be read back from the text.
use Rattle.std.specs.Prelude.{◌≡◌, ◌<◌, ◌≤◌, ⊤, ℕ, List, [], ◌∷◌, length, map, slice_index_or}
use Rattle.std.specs.List.{AllByRecursion, flat_map}
use Rattle.sect_modes.specs.declared.key.Key.{Key}
use Rattle.sect_emit.specs.declared.plan.Grip.{Grip}
use Rattle.sect_c.specs.Declarations.{plan_c}
use Rattle.sect_types.specs.Programs.{ProgramView}
use Rattle.sect_emit.specs.Listing.{by_number}
use Rattle.sect_c.specs.Statements.{node_c}
use Rattle.sect_c.specs.Told.{AreNames, NamesTell, DeclareAlike}
use Rattle.sect_c.specs.Fits.{FitsNode}
use Rattle.sect_c.specs.Said.{node_said}
use Rattle.sect_types.specs.declared.expansion.action.Field.{Field}
use Rattle.sect_graph.specs.declared.flow.Node.{Node}
use Rattle.sect_emit.specs.declared.graphs.GraphOf.{GraphOf}
use Rattle.sect_c.specs.declared.context.Standing.{Standing}
use Rattle.sect_names.specs.Locks.{IsField}
use Rattle.sect_points.specs.Paths.{PathView, base_of, fields_of}
use Rattle.sect_names.specs.declared.lock.Lock.{Lock}
use Rattle.sect_c.specs.Sections.{look_c}
use Rattle.sect_c.specs.Naming.{field_type, variable_type}
use Rattle.sect_points.specs.declared.holders.Variable.{Variable}
use Rattle.sect_points.specs.declared.holders.Variable.TheVariants.{Global, Local}
use Rattle.sect_types.specs.declared.declarations.types.ValueType.{ValueType}
use Rattle.sect_types.specs.declared.declarations.types.ValueType.TheVariants.{Int, Refers}
use Rattle.sect_names.specs.declared.lock.Lock.TheVariants as lock
use Rattle.sect_modes.specs.declared.key.Key.TheVariants as key

-- the key of all objects or of a class
abbrev pub IsWhole : Key → Type 0
IsWhole key.All = ⊤
IsWhole (key.Class c) = c < 65536
IsWhole (key.Global g) = ⊥
IsWhole (key.Made t n) = ⊥

abbrev pub AreWhole : List Grip → Type 0
AreWhole part = AllByRecursion (λ g. IsWhole g.key) part

-- two tables with one text are those of one section, with one list of keys
abbrev pub TablesTellKeys : Type 0
TablesTellKeys =
    (i j : ℕ) (a b : List Grip) → i < 65536 → j < 65536 → AreWhole a → AreWhole b → plan_c i a ≡ plan_c j b
    → (i ≡ j) × (a ≡ b)

abbrev pub standing : GraphOf → ℕ → ℕ → Standing
standing g u exit = record { graph = g; thread = u; exit = exit }

-- nodes of the same number in a graph of thread u, of two programs that declare the same, with one text are one
abbrev pub LinesTellNodes : Type 0
LinesTellNodes =
    (p q : ProgramView) (u : ℕ) → AreNames p.source → AreNames q.source → NamesTell p → DeclareAlike p q u
    → (g : GraphOf) (k l : ℕ) → k < 65536 → l < 65536 → (looked also : List Field) (n : ℕ) (x y : Node)
    → FitsNode p u x → FitsNode q u y
    → node_c p looked (standing g u k) n x ≡ node_c q also (standing g u l) n y → node_said x ≡ node_said y

-- so are whole graphs
abbrev pub LinesTellGraphs : Type 0
LinesTellGraphs =
    (p q : ProgramView) (u : ℕ) → AreNames p.source → AreNames q.source → NamesTell p → DeclareAlike p q u
    → (g : GraphOf) (k l : ℕ) → k < 65536 → l < 65536 → (looked also : List Field) (xs ys : List Node)
    → length xs ≤ 65536 → length ys ≤ 65536 → AllByRecursion (FitsNode p u) xs → AllByRecursion (FitsNode q u) ys
    → by_number (node_c p looked (standing g u k)) 0 xs ≡ by_number (node_c q also (standing g u l)) 0 ys
    → map node_said xs ≡ map node_said ys

-- a global, or a local of thread u
abbrev pub FitsVariable : ProgramView → ℕ → Variable → Type 0
FitsVariable p u (Global g) = g < length p.globals
FitsVariable p u (Local t x) = (t ≡ u) × (x < 65536) × (x < length (slice_index_or p.locals u []))

-- each field is one of the record that is reached there
abbrev pub Follows : ProgramView → ValueType → List Field → Type 0
Follows p of [] = ⊤
Follows p Int (f ∷ fields) = ⊥
Follows p (Refers r) (f ∷ fields) = (f.of ≡ r) × IsField p f × Follows p (field_type p f) fields

-- a path that a section of thread u may lock
pub record FitsPath (p : ProgramView) (u : ℕ) (q : PathView) : Type 0 where
  pub base : FitsVariable p u (base_of q)
  pub fields : Follows p (variable_type p (base_of q)) (fields_of q)
  pub short : length (fields_of q) < 65536

abbrev pub FitsLock : ProgramView → ℕ → Lock → Type 0
FitsLock p u lock.All = ⊥
FitsLock p u (lock.Class c r) = ⊥
FitsLock p u (lock.Path q e) = FitsPath p u q

-- two lists of looks of thread u, of two programs that declare the same, with one text are those of one list of locks
abbrev pub LooksTellLocks : Type 0
LooksTellLocks =
    (p q : ProgramView) (u : ℕ) → AreNames p.source → AreNames q.source → NamesTell p → DeclareAlike p q u
    → (xs ys : List Lock) → AllByRecursion (FitsLock p u) xs → AllByRecursion (FitsLock q u) ys
    → flat_map (look_c p) xs ≡ flat_map (look_c q) ys → xs ≡ ys

-- its number has 16 bits, if it is a lock on a class
abbrev pub IsShown : Lock → Type 0
IsShown lock.All = ⊤
IsShown (lock.Class c r) = c < 65536
IsShown (lock.Path q e) = ⊤
