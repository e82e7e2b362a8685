-- The locks of a section, and of all sections. `infer` and `infer_all` say so of what they give.
use Rattle.std.specs.Prelude.{◌≡◌, ℕ, ◌+◌, List, [], Some, slice_get, length}
use Rattle.sect_lemmas.specs.Lists.{Has}
use Rattle.sect_types.specs.{Statements.{TextView}, Sections.{SectionView, sections_of}}
use Rattle.sect_graph.specs.declared.flow.Node.{Node}
use Rattle.sect_names.specs.{declared.lock.Lock.{Lock}, Schemes.{SchemeView}, Locks.{IsLockOf}}
use Rattle.sect_names.specs.{Needed.{IsNeeded, IsNeededFrom, IsLeast, end_of}, Order.{AreInOrder, AreMaximal}}

-- the locks at each node of a section's graph, the exit too, and those that are taken at its entry
pub record LocksView : Type 0 where
  pub at : List (List Lock)
  pub entry : List Lock

-- at each node, the exit too, these are the maximal ones of the locks that are needed from there on
pub record AreNeeded (s : SchemeView) (t : ℕ) (last : List Lock) (body : TextView) (g : List Node)
    (at : List (List Lock)) : Type 0 where
  pub count : length at ≡ length g + 1
  pub each : (j : ℕ) (locks : List Lock) → slice_get at j ≡ Some locks
      → AreMaximal s (IsNeededFrom s t last body g j) locks

-- these are the locks of a section with this graph, whose end generates those locks: at each node the maximal ones of
-- what is needed from there on; at the entry those of the first node, which are needed there and are the least set that
-- protects, in canonical order
pub record AreLocksOf (s : SchemeView) (last : List Lock) (section : SectionView) (g : List Node)
    (locks : LocksView) : Type 0 where
  pub needed : AreNeeded s section.thread last section.body g locks.at
  pub first : slice_get locks.at 0 ≡ Some locks.entry
  pub entry_needed : (l : Lock) → Has locks.entry l → IsNeeded s section.thread last section.body l
  pub least : IsLeast s section.thread last section.body locks.entry
  pub in_order : AreInOrder locks.entry

-- a section whose end generates those locks takes these at its entry: each is needed there, and they are the least set
-- that protects, in canonical order
pub record AreTaken (s : SchemeView) (last : List Lock) (section : SectionView) (entry : List Lock) : Type 0 where
  pub needed : (l : Lock) → Has entry l → IsNeeded s section.thread last section.body l
  pub least : IsLeast s section.thread last section.body entry
  pub in_order : AreInOrder entry

-- each lock at a node is one that sections of the thread may take
abbrev pub AreOfProgram : SchemeView → ℕ → LocksView → Type 0
AreOfProgram s t locks =
    (j : ℕ) (list : List Lock) → slice_get locks.at j ≡ Some list → (l : Lock) → Has list l → IsLockOf s t l

-- these are the locks of section i, and locks of the program
abbrev pub AreInferredAt : SchemeView → ℕ → LocksView → Type 0
AreInferredAt s i locks =
    (of : SectionView) (g : List Node) → slice_get (sections_of s.program.texts) i ≡ Some of
    → slice_get s.graphs.sections i ≡ Some g → AreLocksOf s (end_of s i) of g locks × AreOfProgram s of.thread locks

-- these would be the locks of section i if it weren't marked `all`, and are locks of the program
abbrev pub AreUnmarkedAt : SchemeView → ℕ → LocksView → Type 0
AreUnmarkedAt s i locks =
    (of : SectionView) (g : List Node) → slice_get (sections_of s.program.texts) i ≡ Some of
    → slice_get s.graphs.sections i ≡ Some g → AreLocksOf s [] of g locks × AreOfProgram s of.thread locks

-- those of all sections
pub record AreAllInferred (s : SchemeView) (all : List LocksView) : Type 0 where
  pub count : length all ≡ length (sections_of s.program.texts)
  pub each : (i : ℕ) (locks : LocksView) → slice_get all i ≡ Some locks → AreInferredAt s i locks

-- the locks of so many sections
pub record AreInferredBelow (s : SchemeView) (n : ℕ) (all : List LocksView) : Type 0 where
  pub count : length all ≡ n
  pub each : (i : ℕ) (locks : LocksView) → slice_get all i ≡ Some locks → AreInferredAt s i locks
