-- Whether two sections exclude each other. `conflicts` cites it.
use Rattle.std.specs.Prelude.{◌≡◌, ◌⊎◌, ◌<◌, ℕ, true, false, List, [], ◌∷◌, ◌++◌, slice_index_or, if◌then◌else◌}
use Rattle.sect_lemmas.specs.Lists.{Has}
use Rattle.sect_types.specs.{Store.{StoreView}, declared.meaning.store.Datum.{Datum}}
use Rattle.sect_points.specs.{Paths.{PathHas}, Sets.{InSets}}
use Rattle.sect_modes.specs.{declared.mode.Mode.{Mode}, declared.key.Key.{Key}, Mode.{are_compatible, is_at_least}}
use Rattle.sect_modes.specs.Key.{is_key_below}
use Rattle.sect_names.specs.{declared.lock.Lock.{Lock}, Schemes.{SchemeView}}
use Rattle.sect_emit.specs.{declared.plan.Grip.{Grip}, Plan.{grip, object_mode}, PlanLaws.{Gives}, State.{plan_at}}
use Rattle.sect_emit.specs.Compiled.{CompiledView}
use Rattle.sect_conflicts.specs.{declared.conflict.KeyClash.{KeyClash}, declared.conflict.PathPair.{PathPair}}
use Rattle.sect_conflicts.specs.declared.conflict.Conflict.{Conflict}
use Rattle.sect_conflicts.specs.declared.conflict.Conflict.TheVariants.{Always, Sometimes, Never}
use Rattle.sect_names.specs.declared.lock.Lock.TheVariants as lock

-- both plans ask for some key, in modes that aren't compatible
abbrev pub Clash : List Grip → List Grip → Type 0
Clash plan other =
    (k : Key) × (m : Mode) × (n : Mode) × Has plan (grip k m) × Has other (grip k n) × (are_compatible m n ≡ false)

-- section i asks for the key at least so strongly in every state
abbrev pub AlwaysAsks : CompiledView → ℕ → Key → Mode → Type 0
AlwaysAsks c i k m = (store : StoreView) (locals : List Datum) → Gives (plan_at c i store locals) k m

-- and this is the strongest mode in which it does
abbrev pub IsStrongest : CompiledView → ℕ → Key → Mode → Type 0
IsStrongest c i k m = AlwaysAsks c i k m × ((n : Mode) → AlwaysAsks c i k n → is_at_least m n ≡ true)

-- sections i and j ask for the key in every state, in modes that aren't compatible
abbrev pub AlwaysClash : CompiledView → ℕ → ℕ → Key → Type 0
AlwaysClash c i j k = (m : Mode) × (n : Mode) × AlwaysAsks c i k m × AlwaysAsks c j k n × (are_compatible m n ≡ false)

-- no key below this one is such a key
pub record IsFirstClash (c : CompiledView) (i j : ℕ) (clash : KeyClash) : Type 0 where
  pub first : IsStrongest c i clash.key clash.first
  pub second : IsStrongest c j clash.key clash.second
  pub apart : are_compatible clash.first clash.second ≡ false
  pub least : (k : Key) → AlwaysClash c i j k → is_key_below k clash.key ≡ false

-- some site is in the points-to sets of both paths, so they may denote one object
abbrev pub MayBeOne : SchemeView → PathPair → Type 0
MayBeOne s pair =
    (site : ℕ) × (site < s.classes.sets.sites) × PathHas (InSets s.classes.sets) pair.first site
    × PathHas (InSets s.classes.sets) pair.second site

-- the paths of two locks, unless both are only read
abbrev pub paths_of_two : Lock → Lock → List PathPair
paths_of_two (lock.Path p e) (lock.Path q f) =
    if are_compatible (object_mode e) (object_mode f) then [] else record { first = p; second = q } ∷ []
paths_of_two (lock.Path p e) lock.All = []
paths_of_two (lock.Path p e) (lock.Class n r) = []
paths_of_two lock.All other = []
paths_of_two (lock.Class n r) other = []

-- those of a lock and each of others
abbrev pub paths_with : Lock → List Lock → List PathPair
paths_with l [] = []
paths_with l (other ∷ others) = paths_of_two l other ++ paths_with l others

-- those of each lock and each of others, in the order of both
abbrev pub paths_between : List Lock → List Lock → List PathPair
paths_between [] others = []
paths_between (l ∷ locks) others = paths_with l others ++ paths_between locks others

-- the second list has the elements of the first that have the property, in their order
abbrev pub Selects : {X : Type 0} → (X → Type 0) → List X → List X → Type 0
Selects P [] chosen = chosen ≡ []
Selects {X} P (x ∷ xs) chosen =
    ((rest : List X) × P x × (chosen ≡ x ∷ rest) × Selects P xs rest) ⊎ ((P x → ⊥) × Selects P xs chosen)

-- the lock set of section i
abbrev pub set_at : CompiledView → ℕ → List Lock
set_at c i = slice_index_or c.sets i []

-- no key is asked for by both in every state in modes that aren't compatible; and these are the paths of both, not both
-- only read, that may denote one object
pub record MayGoTogether (c : CompiledView) (i j : ℕ) (pairs : List PathPair) : Type 0 where
  pub free : (k : Key) → AlwaysClash c i j k → ⊥
  pub meetings : Selects (MayBeOne c.scheme) (paths_between (set_at c i) (set_at c j)) pairs

-- what is told of sections i and j
abbrev pub IsConflict : CompiledView → ℕ → ℕ → Conflict → Type 0
IsConflict c i j (Always clash) = IsFirstClash c i j clash
IsConflict c i j (Sometimes pairs) = MayGoTogether c i j pairs.items × ((pair : PathPair) × Has pairs.items pair)
IsConflict c i j Never = MayGoTogether c i j []
