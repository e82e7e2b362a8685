-- Locks by their numbers in a numbering.
use Rattle.std.specs.Prelude.{◌≡◌, ◌↔◌, ◌<◌, ◌⊎◌, ⊤, ℕ, Bool, not, List, [], filter, ◌++◌, Option, Some, None}
use Rattle.std.specs.{Prelude.{length, map, slice_get, slice_index_or}, List.{list_any}}
use Rattle.sect_lemmas.specs.Lists.{Has}
use Rattle.sect_points.specs.{Paths.{PathView}, Partitions.{ClassesView, HasClass}}
use Rattle.sect_names.specs.{declared.lock.Lock.{Lock}, Schemes.{SchemeView}, Climbing.{IsAbove}, Order.{AreInOrder}}
use Rattle.sect_infer.specs.Numbers.{has_number, AreApart}
use Rattle.sect_names.specs.declared.lock.Effect.TheVariants as effect
use Rattle.sect_names.specs.declared.lock.Lock.TheVariants as lock

-- a lock's number is its place among the keys; for each, the numbers of those that are above it, and the class of its
-- path
pub record NumberingView : Type 0 where
  pub keys : List Lock
  pub above : List (List ℕ)
  pub classes : List (Option ℕ)

-- the lock has one of these numbers
abbrev pub HasLock : List Lock → List ℕ → Lock → Type 0
HasLock keys ns l = (n : ℕ) × Has ns n × (slice_get keys n ≡ Some l)

-- a lock has the number
abbrev pub AreNumbers : List Lock → List ℕ → Type 0
AreNumbers keys ns = (n : ℕ) → Has ns n → n < length keys

-- the lock is one to write a path
abbrev pub IsToWrite : Lock → Type 0
IsToWrite l = (p : PathView) × (l ≡ lock.Path p effect.Write)

-- this is the class of the lock's path, if it is on one
abbrev pub ClassIs : SchemeView → Lock → Option ℕ → Type 0
ClassIs s lock.All o = ⊤
ClassIs s (lock.Class m r) o = ⊤
ClassIs s (lock.Path p e) o = (n : ℕ) → (o ≡ Some n) ↔ HasClass s.classes p n

-- the lock isn't on a path, or on one of this class alone
abbrev pub IsOfClass : ClassesView → Lock → ℕ → Type 0
IsOfClass c lock.All n = ⊤
IsOfClass c (lock.Class m r) n = ⊤
IsOfClass c (lock.Path p e) n = (m : ℕ) → (Some n ≡ Some m) ↔ HasClass c p m

-- the class of each lock's path is told
abbrev pub AreClassed : SchemeView → NumberingView → Type 0
AreClassed s t =
    (n : ℕ) (l : Lock) → slice_get t.keys n ≡ Some l → ClassIs s l (slice_index_or t.classes n None)

-- the numbers are those of locks above one
abbrev pub AreOver : SchemeView → List Lock → Lock → List ℕ → Type 0
AreOver s keys l ns = (n : ℕ) → Has ns n → (big : Lock) × (slice_get keys n ≡ Some big) × IsAbove s big l

-- these are the numbers of all locks above one that are there
pub record AreAbove (s : SchemeView) (keys : List Lock) (l : Lock) (ns : List ℕ) : Type 0 where
  pub cover : AreOver s keys l ns
  pub all : (big : Lock) → IsAbove s big l → HasLock keys ns big ⊎ (Has keys big → ⊥)

-- each lock has one number, and those of the locks above it are told, and the class of its path
pub record IsNumbering (s : SchemeView) (t : NumberingView) : Type 0 where
  pub count : length t.above ≡ length t.keys
  pub counted : length t.classes ≡ length t.keys
  pub apart : AreApart t.keys
  pub classed : AreClassed s t
  pub told : (n : ℕ) (l : Lock) → slice_get t.keys n ≡ Some l → AreAbove s t.keys l (slice_index_or t.above n [])

-- they are numbered so for some scheme
abbrev pub IsNumberingOfSome : NumberingView → Type 0
IsNumberingOfSome t = (s : SchemeView) × IsNumbering s t

-- whether one of the numbers is above this one
abbrev pub is_under : List (List ℕ) → List ℕ → ℕ → Bool
is_under above ns n = list_any (has_number ns) (slice_index_or above n [])

-- the numbering has the locks that it had, by the same numbers, and may have more
abbrev pub Extends : NumberingView → NumberingView → Type 0
Extends old new = (more : List Lock) × (new.keys ≡ old.keys ++ more)

-- the numbering has been extended so that the lock has the number
pub record IsNumbered (s : SchemeView) (old new : NumberingView) (l : Lock) (n : ℕ) : Type 0 where
  pub numbering : IsNumbering s new
  pub longer : Extends old new
  pub there : slice_get new.keys n ≡ Some l

-- numbers of locks that were found: the numbering tells of each, and none is there twice
pub record IsFinding (s : SchemeView) (t : NumberingView) (ns : List ℕ) : Type 0 where
  pub numbering : IsNumbering s t
  pub numbers : AreNumbers t.keys ns
  pub apart : AreApart ns

-- locks with this property were found beside those that had been
pub record Finds (s : SchemeView) (old : NumberingView) (before : List ℕ) (new : NumberingView) (after : List ℕ)
    (P : Lock → Type 0) : Type 0 where
  pub finding : IsFinding s new after
  pub longer : Extends old new
  pub behind : (more : List ℕ) × (after ≡ before ++ more)
  pub each : (l : Lock) → P l → HasLock new.keys after l
  pub only : (l : Lock) → HasLock new.keys after l → HasLock old.keys before l ⊎ P l

-- those of the numbers that none of the ones that were found is above
abbrev pub fresh_from : List (List ℕ) → List ℕ → List ℕ → List ℕ
fresh_from above found = filter (λ n. not (is_under above found n))

-- the lock with a number
abbrev pub lock_at : List Lock → ℕ → Lock
lock_at keys n = slice_index_or keys n lock.All

-- the numbers are these, in the canonical order of their locks
pub record IsOrderOf (keys : List Lock) (numbers order : List ℕ) : Type 0 where
  pub sorted : AreInOrder (map (lock_at keys) order)
  pub same : (n : ℕ) → Has order n → Has numbers n
  pub all : (n : ℕ) → Has numbers n → Has order n
