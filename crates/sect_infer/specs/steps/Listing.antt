-- Locks in canonical order by their numbers.
use Rattle.std.specs.Prelude.{◌≡◌, ◌<◌, ◌&&◌, ℕ, Bool, not, List, [], map, filter, length, slice_index_or}
use Rattle.sect_lemmas.specs.Lists.{Has}
use Rattle.sect_names.specs.{declared.lock.Lock.{Lock}, Order.{AreInOrder}}
use Rattle.sect_infer.specs.{Numbers.{has_number, with_numbers}, Numberings.{NumberingView, is_under, lock_at}}

-- these are numbers of locks, in the canonical order of these, and each that one of the lists has is one of them
pub record IsOrder (keys : List Lock) (lists : List (List ℕ)) (order : List ℕ) : Type 0 where
  pub sorted : AreInOrder (map (lock_at keys) order)
  pub numbers : (n : ℕ) → Has order n → n < length keys
  pub all : (j n : ℕ) → Has (slice_index_or lists j []) n → n < length keys → Has order n

-- whether the number is among these, and none of them is above it
abbrev pub is_kept : List (List ℕ) → List ℕ → ℕ → Bool
is_kept above ns n = has_number ns n && not (is_under above ns n)

-- those of the locks with these numbers that no other of them is above, in this order
abbrev pub listed : NumberingView → List ℕ → List ℕ → List Lock
listed t order ns = map (lock_at t.keys) (filter (is_kept t.above (with_numbers [] ns)) order)

-- the numbers in the order are those of locks
pub record IsListable (t : NumberingView) (order : List ℕ) : Type 0 where
  pub numbers : (n : ℕ) → Has order n → n < length t.keys
  pub count : length t.above ≡ length t.keys
