-- How far the pairs of sections have been compared.
use Rattle.std.specs.Prelude.{◌≡◌, ℕ, List}
use Rattle.sect_lemmas.specs.Lists.{Has}
use Rattle.sect_emit.specs.Compiled.{CompiledView}
use Rattle.sect_conflicts.specs.{declared.conflict.SectionPair.{SectionPair}, Conflicts.{IsConflict}}
use Rattle.sect_conflicts.specs.Comparing.{AreCompared, IsPairBefore, ArePairsInOrder}

-- the pairs before that of i and j stand there, and no others
pub record AreConflictsBefore (c : CompiledView) (i j : ℕ) (pairs : List SectionPair) : Type 0 where
  pub each : (p : SectionPair) → Has pairs p → AreCompared c p.first p.second × IsConflict c p.first p.second p.conflict
  pub all : (m n : ℕ) → AreCompared c m n → IsPairBefore m n i j
      → (p : SectionPair) × Has pairs p × (p.first ≡ m) × (p.second ≡ n)
  pub order : ArePairsInOrder pairs
  pub before : (p : SectionPair) → Has pairs p → IsPairBefore p.first p.second i j
