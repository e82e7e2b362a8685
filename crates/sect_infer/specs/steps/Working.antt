-- The worklist: the locks that are found at the nodes of a section's graph.
use Rattle.std.specs.Prelude.{◌≡◌, ◌↔◌, ◌<◌, ◌+◌, ◌⊎◌, ℕ, Bool, true, false, List, [], ◌++◌, Some, length, slice_get}
use Rattle.std.specs.Prelude.{slice_index_or, slice_set}
use Rattle.sect_types.specs.declared.expansion.action.Label.{Label}
use Rattle.sect_lemmas.specs.Lists.{Has}
use Rattle.sect_graph.specs.{declared.flow.Node.{Node}, declared.flow.Successors.TheVariants.{Next}, Paths.{LeadsTo}}
use Rattle.sect_names.specs.{declared.lock.Lock.{Lock}, Schemes.{SchemeView}, Locks.{Covers, IsLockOf, IsOutdone}}
use Rattle.sect_names.specs.Carrying.{CarriedBack}
use Rattle.sect_infer.specs.{Numbers.{AreApart}, Numberings.{NumberingView, HasLock, AreNumbers, IsNumbering, Extends}}
use Rattle.sect_infer.specs.steps.Needs.{need, IsSeed, IsDerived}

-- the lock was found at the node
abbrev pub IsFoundAt : List Lock → List (List ℕ) → ℕ → Lock → Type 0
IsFoundAt keys lists j l = HasLock keys (slice_index_or lists j []) l

-- a lock that was found at the node covers it
abbrev pub IsCoveredAt : SchemeView → List Lock → List (List ℕ) → ℕ → Lock → Type 0
IsCoveredAt s keys lists j l = (big : Lock) × IsFoundAt keys lists j big × Covers s big l

-- a lock that was found where control may go on from node j is carried back to this one
abbrev pub IsCarried : SchemeView → ℕ → List Node → List Lock → List (List ℕ) → ℕ → Lock → Type 0
IsCarried s t g keys lists j r =
    (y : Node) × (m : ℕ) × (l : Lock) × (slice_get g j ≡ Some y) × LeadsTo y m × IsFoundAt keys lists m l
    × CarriedBack s t y.label l r

-- node j generates the lock, or it is carried back to it
abbrev pub IsDue : SchemeView → ℕ → List Node → List Lock → List (List ℕ) → ℕ → Lock → Type 0
IsDue s t g keys lists j l = IsSeed s t g (need j l) ⊎ IsCarried s t g keys lists j l

-- the locks of a section's nodes, the exit too, by their numbers in a numbering
pub record AreNumbered (s : SchemeView) (g : List Node) (a : NumberingView) (lists : List (List ℕ)) : Type 0 where
  pub numbering : IsNumbering s a
  pub count : length lists ≡ length g + 1
  pub numbers : (j : ℕ) → AreNumbers a.keys (slice_index_or lists j [])
  pub apart : (j : ℕ) → AreApart (slice_index_or lists j [])

-- what was found are locks of the program
abbrev pub AreLawfulAt : SchemeView → ℕ → List Lock → List (List ℕ) → Type 0
AreLawfulAt s t keys lists = (j : ℕ) (l : Lock) → IsFoundAt keys lists j l → IsLockOf s t l

-- each of these locks is carried back over a node to itself alone, where it is the program's
abbrev pub AllStay : ℕ → Label → (Lock → Type 0) → Type 0
AllStay t label Given = (l : Lock) → Given l → (s : SchemeView) → IsLockOf s t l
    → (r : Lock) → CarriedBack s t label l r ↔ (r ≡ l)

-- nothing was found at node j; control goes on from it to the other alone, and all that was found there stays
pub record IsPassedOn (t : ℕ) (g : List Node) (keys : List Lock) (lists : List (List ℕ)) (j next : ℕ) : Type 0 where
  pub none : slice_index_or lists j [] ≡ []
  pub goes : (y : Node) → slice_get g j ≡ Some y → y.next ≡ Next next
  pub stay : (y : Node) → slice_get g j ≡ Some y → AllStay t y.label (HasLock keys (slice_index_or lists next []))

-- nothing was found at node j; control may go on from it to the other, and all that was found there stays
pub record IsTakenOver (t : ℕ) (g : List Node) (keys : List Lock) (lists : List (List ℕ)) (j next : ℕ) : Type 0 where
  pub none : slice_index_or lists j [] ≡ []
  pub leads : (y : Node) → slice_get g j ≡ Some y → LeadsTo y next
  pub stay : (y : Node) → slice_get g j ≡ Some y → AllStay t y.label (HasLock keys (slice_index_or lists next []))

-- the lock is one of those with these numbers, or another of them covers it
abbrev pub IsToldBy : SchemeView → List Lock → List ℕ → Lock → Type 0
IsToldBy s keys ns l = HasLock keys ns l ⊎ IsOutdone s (HasLock keys ns) l

-- the number of the lock stands behind those of node j now, unless they told of it
pub record IsOwnPut (s : SchemeView) (old : NumberingView) (before : List (List ℕ)) (new : NumberingView)
    (after : List (List ℕ)) (j : ℕ) (l : Lock) : Type 0 where
  pub numbering : IsNumbering s new
  pub longer : Extends old new
  pub own : List ℕ
  pub changed : after ≡ slice_set before j (slice_index_or before j [] ++ own)
  pub its : (n : ℕ) → Has own n → (slice_get new.keys n ≡ Some l) × (Has (slice_index_or before j []) n → ⊥)
  pub apart : AreApart own
  pub told : IsToldBy s new.keys (slice_index_or before j [] ++ own) l

-- what node j generates was put behind its numbers, unless they told of it
pub record IsGeneratedPut (s : SchemeView) (t : ℕ) (g : List Node) (old : NumberingView) (before : List (List ℕ))
    (new : NumberingView) (after : List (List ℕ)) (j : ℕ) : Type 0 where
  pub numbering : IsNumbering s new
  pub longer : Extends old new
  pub own : List ℕ
  pub changed : after ≡ slice_set before j (slice_index_or before j [] ++ own)
  pub its : (n : ℕ) → Has own n → (l : Lock) × (slice_get new.keys n ≡ Some l) × IsSeed s t g (need j l)
  pub fresh : (n : ℕ) → Has own n → Has (slice_index_or before j []) n → ⊥
  pub apart : AreApart own
  pub told : (l : Lock) → IsSeed s t g (need j l) → IsToldBy s new.keys (slice_index_or before j [] ++ own) l

-- these numbers stand behind those of node j now, if there are any
pub record IsFreshPut (before after : List (List ℕ)) (j : ℕ) (fresh : List ℕ) (any : Bool) : Type 0 where
  pub changed : after ≡ slice_set before j (slice_index_or before j [] ++ fresh)
  pub none : any ≡ false → fresh ≡ []
  pub some : any ≡ true → 0 < length fresh

-- node j was gone over: behind its list stands more, if there was more, and that covers what was due there
pub record IsVisit (s : SchemeView) (t : ℕ) (g : List Node) (old : NumberingView) (before : List (List ℕ))
    (new : NumberingView)
    (after : List (List ℕ)) (j : ℕ) (any : Bool) : Type 0 where
  pub numbered : AreNumbered s g new after
  pub longer : Extends old new
  pub more : List ℕ
  pub changed : after ≡ slice_set before j (slice_index_or before j [] ++ more)
  pub others : (i : ℕ) → (i ≡ j → ⊥) → slice_index_or after i [] ≡ slice_index_or before i []
  pub here : slice_index_or after j [] ≡ slice_index_or before j [] ++ more
  pub none : any ≡ false → more ≡ []
  pub some : any ≡ true → 0 < length more
  pub only : (l : Lock) → IsFoundAt new.keys after j l → IsFoundAt old.keys before j l ⊎ IsDue s t g old.keys before j l
  pub put : (l : Lock) → IsDue s t g old.keys before j l → IsCoveredAt s new.keys after j l

-- what was found is derived, and covers what is due at each node that doesn't wait
pub record IsWorking (s : SchemeView) (t : ℕ) (g : List Node) (numbering : NumberingView) (lists : List (List ℕ))
    (waiting : List ℕ) : Type 0 where
  pub numbered : AreNumbered s g numbering lists
  pub derived : (j : ℕ) (l : Lock) → IsFoundAt numbering.keys lists j l → IsDerived s t g (need j l)
  pub closed : (j : ℕ) → j < length g
      → Has waiting j ⊎ ((l : Lock) → IsDue s t g numbering.keys lists j l → IsCoveredAt s numbering.keys lists j l)
  pub nodes : (j : ℕ) → Has waiting j → j < length g

-- nothing has been found
pub record IsBegun (g : List Node) (numbering : NumberingView) (lists : List (List ℕ)) : Type 0 where
  pub keys : numbering.keys ≡ []
  pub above : numbering.above ≡ []
  pub classes : numbering.classes ≡ []
  pub count : length lists ≡ length g + 1
  pub none : (j : ℕ) → slice_index_or lists j [] ≡ []

-- what was found is derived, and covers what is derived
pub record IsSettled (s : SchemeView) (t : ℕ) (g : List Node) (numbering : NumberingView)
    (lists : List (List ℕ)) : Type 0 where
  pub numbered : AreNumbered s g numbering lists
  pub derived : (j : ℕ) (l : Lock) → IsFoundAt numbering.keys lists j l → IsDerived s t g (need j l)
  pub covered : (j : ℕ) (l : Lock) → IsDerived s t g (need j l) → IsCoveredAt s numbering.keys lists j l
