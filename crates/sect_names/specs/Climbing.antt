-- The locks above a lock.
use Rattle.std.specs.Prelude.{◌≡◌, ◌↔◌, ℕ, List, Some, slice_get, take}
use Rattle.sect_lemmas.specs.Lists.{Has}
use Rattle.sect_names.specs.{declared.lock.Lock.{Lock}, Schemes.{SchemeView}, Locks.{Covers}}

-- the first lock is another than the second and covers it
abbrev pub IsAbove : SchemeView → Lock → Lock → Type 0
IsAbove s big l = Covers s big l × (big ≡ l → ⊥)

-- each lock of the list stands behind those above it
abbrev pub AreBehind : SchemeView → List Lock → Type 0
AreBehind s locks =
    (i : ℕ) (c : Lock) → slice_get locks i ≡ Some c → (big : Lock) → IsAbove s big c → Has (take i locks) big

-- these are all locks above one, each behind those above it
pub record AreCoverers (s : SchemeView) (l : Lock) (locks : List Lock) : Type 0 where
  pub all : (big : Lock) → Has locks big ↔ IsAbove s big l
  pub behind : AreBehind s locks
