-- Which procedures call which, and which reach one.
use Rattle.std.specs.Prelude.{◌≡◌, ◌<◌, ◌+◌, ◌⊎◌, ℕ, Bool, true, false, List, [], ◌∷◌, ◌++◌, length, Some, slice_get}
use Rattle.std.specs.{Prelude.{slice_index_or, eqb}, List.{list_any}}
use Rattle.sect_front.specs.declared.tree.Procedure.{Procedure}
use Rattle.sect_lemmas.specs.Lists.{put_at}
use Rattle.sect_types.specs.Sums.{calls_in}
use Rattle.sect_types.specs.steps.Search.{returns}

abbrev pub IsAmong : List ℕ → ℕ → Type 0
IsAmong xs x = list_any (eqb x) xs ≡ true

-- procedure c calls q
abbrev pub Calls : List Procedure → ℕ → ℕ → Type 0
Calls ps c q = IsAmong (calls_in ps (slice_get ps c)) q

-- those that call procedure q
abbrev pub callers_of : List (List ℕ) → ℕ → List ℕ
callers_of callers q = slice_index_or callers q []

-- each procedure that is there has its callers among the first n
pub record AreCallersBefore (n : ℕ) (ps : List Procedure) (callers : List (List ℕ)) : Type 0 where
  pub as_many : length callers ≡ length ps
  pub each : (q c : ℕ) → IsAmong (callers_of callers q) c → Calls ps c q
  pub all : (q c : ℕ) → c < n → Calls ps c q → IsAmong (callers_of callers q) c

-- and among all
abbrev pub AreCallers : List Procedure → List (List ℕ) → Type 0
AreCallers ps callers = AreCallersBefore (length ps) ps callers

abbrev pub IsMarked : List Bool → ℕ → Type 0
IsMarked marked q = slice_get marked q ≡ Some true

-- how many are marked
abbrev pub marks : List Bool → ℕ
marks [] = 0
marks (true ∷ bs) = 1 + marks bs
marks (false ∷ bs) = marks bs

-- those found are marked, and each that is marked is p or reaches it
pub record AreMarked (ps : List Procedure) (p : ℕ) (marked : List Bool) (found : List ℕ) : Type 0 where
  pub as_many : length marked ≡ length ps
  pub counted : length found ≡ marks marked
  pub found_marked : (q : ℕ) → IsAmong found q → IsMarked marked q
  pub right : (q : ℕ) → IsMarked marked q → returns ps p q ≡ true

-- each marked one was found
abbrev pub AreFound : List Bool → List ℕ → Type 0
AreFound marked found = (q : ℕ) → IsMarked marked q → IsAmong found q

-- what is marked and found stays so
pub record Grows (marked : List Bool) (found : List ℕ) (new_marked : List Bool) (new_found : List ℕ) : Type 0 where
  pub as_many : length new_marked ≡ length marked
  pub stays : (q : ℕ) → IsMarked marked q → IsMarked new_marked q
  pub keeps : (i q : ℕ) → slice_get found i ≡ Some q → slice_get new_found i ≡ Some q

-- procedure p is marked, and so are all callers of the first n that were found
pub record AreClosed (ps : List Procedure) (p : ℕ) (marked : List Bool) (found : List ℕ) (n : ℕ) : Type 0 where
  pub start : IsMarked marked p
  pub callers : (i q c : ℕ) → i < n → slice_get found i ≡ Some q → Calls ps c q → IsMarked marked c

-- procedure n is marked, and was found unless it was marked
abbrev pub Marks : ℕ → List Bool → List ℕ → List Bool → List ℕ → Type 0
Marks n marked found new_marked new_found =
    (IsMarked marked n × (new_marked ≡ marked) × (new_found ≡ found))
    ⊎ ((slice_get marked n ≡ Some false) × (new_marked ≡ put_at n true marked) × (new_found ≡ found ++ n ∷ []))
