-- What is kept of each section of a compiled program.
use Rattle.std.specs.Prelude.{◌≡◌, ℕ, List, Some, length, map, slice_get}
use Rattle.sect_names.specs.{declared.lock.Lock.{Lock}, Schemes.{SchemeView}}
use Rattle.sect_infer.specs.Sets.{LocksView, AreAllInferred}
use Rattle.sect_emit.specs.{declared.plan.Grip.{Grip}, Plan.{IsFixedPart}}

-- the sets of the sections
abbrev pub entries_of : List LocksView → List (List Lock)
entries_of all = map (λ (locks : LocksView). locks.entry) all

-- for each of the sets the fixed part of its plan
pub record AreFixedParts (s : SchemeView) (sets : List (List Lock)) (parts : List (List Grip)) : Type 0 where
  pub count : length parts ≡ length sets
  pub each : (i : ℕ) (locks : List Lock) (part : List Grip) → slice_get sets i ≡ Some locks
      → slice_get parts i ≡ Some part → IsFixedPart s locks part

-- the locks of all sections, and the fixed parts of the plans of the sets
pub record IsWhole (s : SchemeView) (all : List LocksView) (parts : List (List Grip)) : Type 0 where
  pub inferred : AreAllInferred s all
  pub planned : AreFixedParts s (entries_of all) parts
