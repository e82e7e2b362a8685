-- What holds of plans.
use Rattle.std.specs.Prelude.{◌≡◌, ◌⊎◌, ℕ, Bool, true, List, ◌∷◌}
use Rattle.sect_lemmas.specs.Lists.{Has}
use Rattle.sect_types.specs.{declared.meaning.store.ObjectName.{ObjectName}, declared.meaning.store.Datum.{Datum}}
use Rattle.sect_types.specs.{declared.meaning.store.Datum.TheVariants.{Refers}, Store.{StoreView}}
use Rattle.sect_points.specs.{Paths.{PathView}, Partitions.{HasClass}}
use Rattle.sect_modes.specs.{declared.mode.Mode.{Mode}, declared.key.Key.{Key}}
use Rattle.sect_modes.specs.Mode.{is_at_least, join_of, intention_of}
use Rattle.sect_names.specs.{declared.lock.Effect.{Effect}, declared.lock.Lock.{Lock}, Schemes.{SchemeView}}
use Rattle.sect_emit.specs.{declared.plan.Grip.{Grip}, ModeTests.{is_reading_object}}
use Rattle.sect_emit.specs.Plan.{grip, key_of, AreWishesFor, path_datum, object_wishes}
use Rattle.sect_modes.specs.declared.key.Key.TheVariants as key
use Rattle.sect_names.specs.declared.lock.Lock.TheVariants as lock

-- a lock of the set asks for this key in this mode, whatever the state or for what its path denotes now
abbrev pub IsWish : SchemeView → List Lock → StoreView → List Datum → Grip → Type 0
IsWish s locks store locals g =
    ((l : Lock) × (mine : List Grip) × Has locks l × AreWishesFor s l mine × Has mine g)
    ⊎ Has (object_wishes store locals locks) g

-- the list has the key in at least this mode
abbrev pub Gives : List Grip → Key → Mode → Type 0
Gives plan k m = (n : Mode) × Has plan (grip k n) × (is_at_least n m ≡ true)

-- the first key of the list is that of all objects
abbrev pub BeginsWithAll : List Grip → Type 0
BeginsWithAll plan = (m : Mode) × (rest : List Grip) × (plan ≡ grip key.All m ∷ rest)

-- joining keeps what passes the test
abbrev pub IsKeptByJoins : (Key → Mode → Bool) → Type 0
IsKeptByJoins test = (k : Key) (m n : Mode) → test k m ≡ true → test k n ≡ true → test k (join_of m n) ≡ true

-- the paths of the set that denote the object have no class but that
abbrev pub IsOnlyClass : SchemeView → List Lock → StoreView → List Datum → ObjectName → ℕ → Type 0
IsOnlyClass s locks store locals o n =
    (p : PathView) (e : Effect) (c : ℕ) → Has locks (lock.Path p e) → path_datum store locals p ≡ Refers o
    → HasClass s.classes p c → c ≡ n

-- an object of a plan stands there in S or X, and with it its class in at least the intention; with a class stands
-- `all` in at least the intention
pub record HoldsTheWhole (s : SchemeView) (locks : List Lock) (store : StoreView) (locals : List Datum)
    (plan : List Grip) : Type 0 where
  pub object_modes : (o : ObjectName) (m : Mode) → Has plan (grip (key_of o) m) → is_reading_object m ≡ true
  pub classes : (o : ObjectName) (n : ℕ) (m : Mode) → IsOnlyClass s locks store locals o n
      → Has plan (grip (key_of o) m) → Gives plan (key.Class n) (intention_of m)
  pub all : (n : ℕ) (m : Mode) → Has plan (grip (key.Class n) m) → Gives plan key.All (intention_of m)
