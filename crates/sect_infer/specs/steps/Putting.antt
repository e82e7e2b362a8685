-- What is put into a numbering, and the locks on paths.
use Rattle.std.specs.Prelude.{◌≡◌, ◌≤◌, ◌⊎◌, ⊤, ℕ, Bool, false, List, [], ◌∷◌, ◌++◌, Option, Some, None, length}
use Rattle.std.specs.Prelude.{slice_get, slice_index_or, slice_set}
use Rattle.sect_lemmas.specs.Lists.{Has}
use Rattle.sect_points.specs.Paths.{PathView}
use Rattle.sect_names.specs.{declared.lock.Lock.{Lock}, declared.lock.Effect.{Effect}, Schemes.{SchemeView}}
use Rattle.sect_names.specs.{declared.carry.Earlier.{Earlier}, Carrying.{LockOn}, Earlier.{IsOneOf}}
use Rattle.sect_names.specs.Climbing.{IsAbove}
use Rattle.sect_infer.specs.Numberings.{NumberingView, HasLock}
use Rattle.sect_names.specs.declared.lock.Effect.TheVariants as effect
use Rattle.sect_names.specs.declared.lock.Right.TheVariants as right
use Rattle.sect_names.specs.declared.lock.Lock.TheVariants as lock

-- where it isn't told that there may be locks to write paths, none is there
abbrev pub AreWritesTold : Bool → List Lock → Type 0
AreWritesTold writes keys = writes ≡ false → (p : PathView) → Has keys (lock.Path p effect.Write) → ⊥

-- the lock is the one on all, or one on a class that covers locks on paths
abbrev pub IsBroad : Lock → Type 0
IsBroad lock.All = ⊤
IsBroad (lock.Class c right.Write) = ⊤
IsBroad (lock.Class c right.Read) = ⊤
IsBroad (lock.Class c right.Make) = ⊥
IsBroad (lock.Path p e) = ⊥

-- where it isn't told that there may be such locks, none is there
abbrev pub AreBroadTold : Bool → List Lock → Type 0
AreBroadTold broad keys = broad ≡ false → (l : Lock) → IsBroad l → Has keys l → ⊥

-- the number is no greater than one that there may be
abbrev pub IsWithin : Option ℕ → ℕ → Type 0
IsWithin None n = ⊥
IsWithin (Some most) n = n ≤ most

-- no number that is told of any is greater than the highest
abbrev pub AreWithin : Option ℕ → List (List ℕ) → Type 0
AreWithin highest above = (m n : ℕ) → Has (slice_index_or above m []) n → IsWithin highest n

-- what a numbering keeps of its locks, and of what is told of them
pub record IsKept (writes broad : Bool) (highest : Option ℕ) (keys : List Lock) (above : List (List ℕ)) : Type 0 where
  pub writes_told : AreWritesTold writes keys
  pub broad_told : AreBroadTold broad keys
  pub within : AreWithin highest above

-- the locks that aren't on a path and cover one to write a path of this class, or of none
abbrev pub over_writes : Option ℕ → List Lock
over_writes None = lock.All ∷ []
over_writes (Some c) = lock.All ∷ lock.Class c right.Write ∷ []

-- and those that cover one to read it
abbrev pub over_reads : Option ℕ → List Lock
over_reads None = lock.All ∷ []
over_reads (Some c) = lock.All ∷ lock.Class c right.Write ∷ lock.Class c right.Read ∷ []

-- these are the numbers of those of the locks that are there
pub record AreThere (keys locks : List Lock) (ns : List ℕ) : Type 0 where
  pub only : (n : ℕ) → Has ns n → (l : Lock) × Has locks l × (slice_get keys n ≡ Some l)
  pub each : (l : Lock) → Has locks l → HasLock keys ns l ⊎ (Has keys l → ⊥)

-- the lock wasn't there, and stands behind the others now, with those numbers of locks above it, and its path's class
pub record IsPut (old new : NumberingView) (l : Lock) (class : Option ℕ) (ns : List ℕ) : Type 0 where
  pub absent : Has old.keys l → ⊥
  pub keys : new.keys ≡ old.keys ++ l ∷ []
  pub above : new.above ≡ old.above ++ ns ∷ []
  pub classes : new.classes ≡ old.classes ++ class ∷ []

-- nothing has come, and nothing is told
pub record IsSame (old new : NumberingView) : Type 0 where
  pub keys : new.keys ≡ old.keys
  pub above : new.above ≡ old.above
  pub classes : new.classes ≡ old.classes

-- the number m stands behind those that are told of number n
pub record IsTold (old new : NumberingView) (n m : ℕ) : Type 0 where
  pub keys : new.keys ≡ old.keys
  pub above : new.above ≡ slice_set old.above n (slice_index_or old.above n [] ++ m ∷ [])
  pub classes : new.classes ≡ old.classes

-- behind the numbers of the locks above one stands that of a further one, if it is above that too
abbrev pub IsToldOf : SchemeView → Lock → ℕ → Lock → List ℕ → List ℕ → Type 0
IsToldOf s big m l before after =
    (IsAbove s big l × (after ≡ before ++ m ∷ [])) ⊎ ((IsAbove s big l → ⊥) × (after ≡ before))

-- the number of a lock has been put behind those above each lock that it covers
pub record IsToldBelow (s : SchemeView) (old new : NumberingView) (big : Lock) (m : ℕ) : Type 0 where
  pub keys : new.keys ≡ old.keys
  pub classes : new.classes ≡ old.classes
  pub count : length new.above ≡ length old.above
  pub each : (n : ℕ) (l : Lock) → slice_get old.keys n ≡ Some l
      → IsToldOf s big m l (slice_index_or old.above n []) (slice_index_or new.above n [])

-- the lock is the one with this effect on one of the paths
abbrev pub AreOn : SchemeView → Effect → List PathView → Lock → Type 0
AreOn s e paths l = (q : PathView) × Has paths q × LockOn s e q l

-- the lock is the one with this effect on one of the paths that may denote before a node what a path denotes after it
abbrev pub IsOnOneOf : SchemeView → Effect → Earlier → Lock → Type 0
IsOnOneOf s e paths l = (q : PathView) × IsOneOf paths q × LockOn s e q l
