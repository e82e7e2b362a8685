-- What a statement of a section looks into or makes, and the lock that it needs for that.
use Rattle.std.specs.Prelude.{◌≡◌, ℕ, ⊤, Option, Some, None, slice_get}
use Rattle.sect_types.specs.{declared.expansion.action.Base.{Base}, declared.expansion.action.Action.{Action}}
use Rattle.sect_types.specs.declared.meaning.store.ObjectName.{ObjectName}
use Rattle.sect_types.specs.{declared.meaning.store.Datum.TheVariants.{Refers}, Store.{StoreView}}
use Rattle.sect_types.specs.Meaning.{WorkView, base_datum}
use Rattle.sect_points.specs.{declared.holders.Variable.TheVariants.{Global}, Paths.{var}, PathClasses.{variable_of}}
use Rattle.sect_names.specs.{declared.lock.Effect.{Effect}, Schemes.{SchemeView, guard_of}, Carrying.{Generated}}
use Rattle.sect_names.specs.{Records.{SiteOf}, Along.{read_for}}
use Rattle.sect_emit.specs.Pointed.{ExistsAt}
use Rattle.sect_types.specs.declared.expansion.action.Action.TheVariants as action
use Rattle.sect_types.specs.declared.expansion.action.Label.TheVariants as label
use Rattle.sect_names.specs.declared.lock.Effect.TheVariants as effect
use Rattle.sect_names.specs.declared.lock.Right.TheVariants as right
use Rattle.sect_names.specs.declared.lock.Lock.TheVariants as lock

-- the object exists, and is of record r
abbrev pub IsObjectOf : SchemeView → StoreView → ℕ → ObjectName → Type 0
IsObjectOf s store r o = ExistsAt (λ site. SiteOf s.program site r) store o

-- the object that the base denotes is of record r, and the statement generates the lock on the base or the record's
-- guard
abbrev pub LooksLocked : SchemeView → ℕ → StoreView → WorkView → Action → Base → ℕ → Effect → Type 0
LooksLocked s t store w a b r e =
    (o : ObjectName) → base_datum w.locals b ≡ Refers o
    → IsObjectOf s store r o
    × Generated s t (label.Act a) (lock.Path (read_for (guard_of s.guards r) (var (variable_of t b))) e)

-- the statement generates the lock for making an object of this site
abbrev pub MakesLocked : SchemeView → ℕ → Action → Option ℕ → ℕ → Type 0
MakesLocked s t a None i =
    (n : ℕ) × (slice_get s.classes.numbers i ≡ Some n) × Generated s t (label.Act a) (lock.Class n right.Make)
MakesLocked s t a (Some g) i = Generated s t (label.Act a) (lock.Path (var (Global g)) effect.Write)

-- the statement needs of itself the locks for what it looks into and for what it makes
abbrev pub NeedsItsAccess : SchemeView → ℕ → StoreView → WorkView → Action → Type 0
NeedsItsAccess s t store w (action.Assign x v) = ⊤
NeedsItsAccess s t store w (action.Compute x v o u) = ⊤
NeedsItsAccess s t store w (action.New x r i) =
    SiteOf s.program i r × MakesLocked s t (action.New x r i) (guard_of s.guards r) i
NeedsItsAccess s t store w (action.Load x b f) = LooksLocked s t store w (action.Load x b f) b f.of effect.Read
NeedsItsAccess s t store w (action.Store b f v) = LooksLocked s t store w (action.Store b f v) b f.of effect.Write
NeedsItsAccess s t store w (action.Print v) = ⊤
