-- Stores and locals whose references lie within the points-to sets, and what a step does to them.
use Rattle.std.specs.Prelude.{◌≡◌, ◌<◌, ◌⊎◌, ℕ, List, Some, length, slice_get}
use Rattle.sect_types.specs.{Programs.{ProgramView}, declared.expansion.action.Label.{Label}}
use Rattle.sect_types.specs.{declared.meaning.store.ObjectName.{ObjectName}, declared.meaning.store.Datum.{Datum}}
use Rattle.sect_types.specs.declared.meaning.store.Datum.TheVariants.{Refers}
use Rattle.sect_types.specs.Store.{ObjectView, StoreView, object_at, count}
use Rattle.sect_types.specs.Meaning.{WorkView, local_datum, datum_or_null, Change, after_change, Went, one, looked}
use Rattle.sect_types.specs.Meaning.{found_at}
use Rattle.sect_points.specs.{declared.holders.Holder.TheVariants.{Local, Slot}, Paths.{PathView, var, PathHas}}
use Rattle.sect_points.specs.{Partitions.{HasClass}, Sets.{InSets}}
use Rattle.sect_names.specs.{declared.lock.Effect.{Effect}, declared.lock.Lock.{Lock}, Schemes.{SchemeView}}
use Rattle.sect_names.specs.{Carrying.{Before, right_for}, Records.{SiteOf}}
use Rattle.sect_emit.specs.Plan.{path_datum}
use Rattle.sect_types.specs.declared.expansion.action.Action.TheVariants as action
use Rattle.sect_types.specs.declared.expansion.action.Label.TheVariants as label
use Rattle.sect_points.specs.declared.holders.Variable.TheVariants as variable
use Rattle.sect_names.specs.declared.lock.Lock.TheVariants as lock
use Rattle.sect_types.specs.declared.meaning.store.ObjectName.TheVariants as object

-- the object exists, and its site is one of these
abbrev pub ExistsAt : (ℕ → Type 0) → StoreView → ObjectName → Type 0
ExistsAt Site store o = (x : ObjectView) × (object_at store o ≡ Some x) × Site x.site

-- the datum is no reference, or one to such an object
abbrev pub RefersTo : (ℕ → Type 0) → StoreView → Datum → Type 0
RefersTo Site store d = (o : ObjectName) → d ≡ Refers o → ExistsAt Site store o

-- the globals are there, and what fields refer to lies in their sets
pub record IsPointedStore (s : SchemeView) (store : StoreView) : Type 0 where
  pub globals : (g : ℕ) → g < length s.program.globals → ExistsAt (λ site. site ≡ g) store (object.Global g)
  pub fields : (o : ObjectName) (x : ObjectView) (f : ℕ) → object_at store o ≡ Some x
      → RefersTo (InSets s.classes.sets (Slot x.site f)) store (datum_or_null (slice_get x.fields f))

-- and so does what the locals of thread t refer to
abbrev pub ArePointed : SchemeView → StoreView → ℕ → List Datum → Type 0
ArePointed s store t locals = (x : ℕ) → RefersTo (InSets s.classes.sets (Local t x)) store (local_datum locals x)

-- thread t works with these over this store, and its next object is the one of that number
pub record IsPointed (s : SchemeView) (t : ℕ) (store : StoreView) (w : WorkView) : Type 0 where
  pub objects : IsPointedStore s store
  pub locals : ArePointed s store t w.locals
  pub row : t < length store.made
  pub made : w.made ≡ count store t

-- the objects stay, with their sites
abbrev pub ObjectsStay : StoreView → StoreView → Type 0
ObjectsStay store after =
    (o : ObjectName) (x : ObjectView) → object_at store o ≡ Some x → ExistsAt (λ site. site ≡ x.site) after o

-- the step of thread t goes on without a fault from this store and work to those
abbrev pub StepsTo : ProgramView → ℕ → Label → StoreView → WorkView → StoreView → WorkView → Type 0
StepsTo p t (label.Act a) store w after v =
    (change : Change) × (one p t a (found_at store (looked a w.locals)) w ≡ Went v change)
    × (after ≡ after_change t store change)
StepsTo p t (label.Test c) store w after v = (after ≡ store) × (v.locals ≡ w.locals) × (v.made ≡ w.made)
StepsTo p t (label.Section i) store w after v = ⊥

-- the object that the path denotes, with its site: it lies in the path's set, is of the path's record and class
abbrev pub IsDenoted : SchemeView → StoreView → PathView → ℕ → ObjectName → Type 0
IsDenoted s store p r o =
    (x : ObjectView) × (object_at store o ≡ Some x) × PathHas (InSets s.classes.sets) p x.site
    × SiteOf s.program x.site r
    × ((n : ℕ) × HasClass s.classes p n × (slice_get s.classes.numbers x.site ≡ Some n))

-- the step is a `new`, p its local, and o the object that it makes
abbrev pub IsMade : ℕ → ℕ → Label → PathView → ObjectName → Type 0
IsMade t made (label.Act (action.Assign x v)) p o = ⊥
IsMade t made (label.Act (action.Compute x v u w)) p o = ⊥
IsMade t made (label.Act (action.New x r i)) p o = (p ≡ var (variable.Local t x)) × (o ≡ object.Made t made)
IsMade t made (label.Act (action.Load x b f)) p o = ⊥
IsMade t made (label.Act (action.Store b f v)) p o = ⊥
IsMade t made (label.Act (action.Print v)) p o = ⊥
IsMade t made (label.Test c) p o = ⊥
IsMade t made (label.Section i) p o = ⊥

-- something that may denote before the step what p denotes after it did denote o, or the step makes o
abbrev pub DenotedBefore : SchemeView → ℕ → Label → StoreView → WorkView → PathView → ObjectName → Type 0
DenotedBefore s t step store w p o =
    ((q : PathView) × Before s.classes t step p q × (path_datum store w.locals q ≡ Refers o)) ⊎ IsMade t w.made step p o

-- among these locks one is on a path that denotes o, or on the class of o
abbrev pub IsSecuredBy : SchemeView → (Lock → Type 0) → StoreView → WorkView → Effect → ObjectName → Type 0
IsSecuredBy s Locks store w e o =
    ((q : PathView) × Locks (lock.Path q e) × (path_datum store w.locals q ≡ Refers o))
    ⊎ ((n : ℕ) × Locks (lock.Class n (right_for e))
    × ((x : ObjectView) × (object_at store o ≡ Some x) × (slice_get s.classes.numbers x.site ≡ Some n)))
