-- Steps that are kept, one after another.
use Rattle.std.specs.Prelude.{◌≡◌, ℕ, Bool, true, not, ◌&&◌, List, [], ◌∷◌, ◌++◌, length, Option, if◌then◌else◌}
use Rattle.std.specs.{Prelude.{slice_set, slice_index_or}, List.{list_any}}
use Rattle.sect_chains.specs.{declared.keep.KeptLink.{KeptLink}, steps.Marking.{is_marked, with_mark}}

-- for each node the marks of the locks that were found there, by their numbers, and the steps that are kept
pub record KeptView : Type 0 where
  pub found : List (List Bool)
  pub steps : List KeptLink

abbrev pub kept : List (List Bool) → List KeptLink → KeptView
kept found steps = record { found = found; steps = steps }

abbrev pub step_of : ℕ → Option ℕ → ℕ → KeptLink
step_of j o n = record { node = j; number = n; next = o }

-- the lock with the number was found at node j
abbrev pub IsMarkedAt : List (List Bool) → ℕ → ℕ → Type 0
IsMarkedAt found j n = is_marked (slice_index_or found j []) n ≡ true

-- whether a number that is above this one is marked
abbrev pub is_outdone : List (List ℕ) → List Bool → ℕ → Bool
is_outdone above marks n = list_any (is_marked marks) (slice_index_or above n [])

-- whether the number isn't marked, and none that is above it
abbrev pub is_new : List (List ℕ) → List Bool → ℕ → Bool
is_new above marks n = not (is_marked marks n) && not (is_outdone above marks n)

-- the number of the step's lock is marked at its node, and the step is kept where it is new there
abbrev pub keep_one : List (List ℕ) → KeptView → KeptLink → KeptView
keep_one above w x = kept
    (slice_set w.found x.node (with_mark (slice_index_or w.found x.node []) (length above) x.number))
    (if is_new above (slice_index_or w.found x.node []) x.number then w.steps ++ x ∷ [] else w.steps)

-- the same of several numbers at one node, whose steps have this index
abbrev pub keep_each : List (List ℕ) → KeptView → ℕ → Option ℕ → List ℕ → KeptView
keep_each above w j o [] = w
keep_each above w j o (n ∷ ns) = keep_each above (keep_one above w (step_of j o n)) j o ns
