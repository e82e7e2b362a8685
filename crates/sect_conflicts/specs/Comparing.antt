-- What is told of all pairs of sections. `conflicts` cites it.
use Rattle.std.specs.Prelude.{◌≡◌, ◌≢◌, ◌⊎◌, ◌<◌, ⊤, ℕ, List, [], ◌∷◌, Some, slice_get}
use Rattle.sect_lemmas.specs.Lists.{Has}
use Rattle.sect_types.specs.Sections.{SectionView, sections_of}
use Rattle.sect_emit.specs.Compiled.{CompiledView, program_of}
use Rattle.sect_conflicts.specs.{declared.conflict.SectionPair.{SectionPair}, Conflicts.{IsConflict}}

-- sections i and j are compared: they are of different threads, and i is the lesser number
pub record AreCompared (c : CompiledView) (i j : ℕ) : Type 0 where
  pub lesser : i < j
  pub one : SectionView
  pub other : SectionView
  pub first : slice_get (sections_of (program_of c).texts) i ≡ Some one
  pub second : slice_get (sections_of (program_of c).texts) j ≡ Some other
  pub apart : one.thread ≢ other.thread

-- the numbers of the one pair come before those of the other
abbrev pub IsPairBefore : ℕ → ℕ → ℕ → ℕ → Type 0
IsPairBefore i j m n = (i < m) ⊎ ((i ≡ m) × (j < n))

-- each pair comes before those that follow it
abbrev pub ArePairsInOrder : List SectionPair → Type 0
ArePairsInOrder [] = ⊤
ArePairsInOrder (p ∷ pairs) =
    ((q : SectionPair) → Has pairs q → IsPairBefore p.first p.second q.first q.second) × ArePairsInOrder pairs

-- each two sections that are compared stand there once, in the order of their numbers, with what is told of them
pub record AreConflicts (c : CompiledView) (pairs : List SectionPair) : Type 0 where
  pub each : (p : SectionPair) → Has pairs p → AreCompared c p.first p.second × IsConflict c p.first p.second p.conflict
  pub all : (i j : ℕ) → AreCompared c i j → (p : SectionPair) × Has pairs p × (p.first ≡ i) × (p.second ≡ j)
  pub order : ArePairsInOrder pairs
