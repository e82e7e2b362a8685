-- The keys that a lock set asks for in a state, each with its mode.
use Rattle.std.specs.Prelude.{◌≡◌, ⊤, ℕ, Bool, true, false, ◌&&◌, List, [], ◌∷◌, ◌++◌, Option, Some, None, slice_get}
use Rattle.std.specs.Prelude.{if◌then◌else◌}
use Rattle.sect_lemmas.specs.Lists.{Has}
use Rattle.sect_points.specs.{declared.holders.Variable.{Variable}, Paths.{PathView, var, dot}, Partitions.{HasClass}}
use Rattle.sect_names.specs.{declared.lock.Effect.{Effect}, declared.lock.Right.{Right}, declared.lock.Lock.{Lock}}
use Rattle.sect_names.specs.Schemes.{SchemeView}
use Rattle.sect_modes.specs.declared.mode.Mode.{Mode}
use Rattle.sect_modes.specs.declared.mode.Mode.TheVariants.{IntentionShared, IntentionExclusive, Shared, Exclusive}
use Rattle.sect_modes.specs.{declared.key.Key.{Key}, Mode.{is_at_least, join_of, intention_of}}
use Rattle.sect_modes.specs.Key.{is_same_key, is_key_below}
use Rattle.sect_types.specs.{declared.meaning.store.ObjectName.{ObjectName}, declared.meaning.store.Datum.{Datum}}
use Rattle.sect_types.specs.declared.meaning.store.Datum.TheVariants.{Number, Null, Refers}
use Rattle.sect_types.specs.{Store.{ObjectView, StoreView, object_at}, Meaning.{datum_or_null, local_datum}}
use Rattle.sect_emit.specs.declared.plan.Grip.{Grip}
use Rattle.sect_points.specs.declared.holders.Variable.TheVariants as variable
use Rattle.sect_names.specs.declared.lock.Effect.TheVariants as effect
use Rattle.sect_names.specs.declared.lock.Right.TheVariants as right
use Rattle.sect_names.specs.declared.lock.Lock.TheVariants as lock
use Rattle.sect_modes.specs.declared.key.Key.TheVariants as key
use Rattle.sect_types.specs.declared.meaning.store.ObjectName.TheVariants as object

-- a key in a mode
abbrev pub grip : Key → Mode → Grip
grip k m = record { key = k; mode = m }

-- the key of an object
abbrev pub key_of : ObjectName → Key
key_of (object.Global g) = key.Global g
key_of (object.Made t n) = key.Made t n

-- the ascending list with a key more; a key that is there already gets the join of both modes
abbrev pub with_grip : Grip → List Grip → List Grip
with_grip g [] = g ∷ []
with_grip g (h ∷ hs) =
    if is_same_key g.key h.key then grip h.key (join_of g.mode h.mode) ∷ hs else
    if is_key_below g.key h.key then g ∷ h ∷ hs else
    h ∷ with_grip g hs

-- each key of the list once, in key order, in the join of its modes
abbrev pub gathered : List Grip → List Grip
gathered [] = []
gathered (g ∷ gs) = with_grip g (gathered gs)

-- each key is below all that follow it
abbrev pub Ascends : List Grip → Type 0
Ascends [] = ⊤
Ascends (g ∷ gs) = ((h : Grip) → Has gs h → is_key_below g.key h.key ≡ true) × Ascends gs

-- the mode of a class for a lock on it, and for a lock on one of its objects
abbrev pub class_mode : Right → Mode
class_mode right.Read = Shared
class_mode right.Write = Exclusive
class_mode right.Make = IntentionExclusive

abbrev pub intended : Effect → Mode
intended effect.Read = IntentionShared
intended effect.Write = IntentionExclusive

-- the mode of an object for a lock on its path
abbrev pub object_mode : Effect → Mode
object_mode effect.Read = Shared
object_mode effect.Write = Exclusive

-- the keys that a lock asks for whatever the state: that of all objects, in the intention of what is locked below it,
-- and that of its class, also where its path is null
abbrev pub AreWishesFor : SchemeView → Lock → List Grip → Type 0
AreWishesFor s lock.All gs = gs ≡ grip key.All Exclusive ∷ []
AreWishesFor s (lock.Class c r) gs =
    gs ≡ grip key.All (intention_of (class_mode r)) ∷ grip (key.Class c) (class_mode r) ∷ []
AreWishesFor s (lock.Path p e) gs =
    (c : ℕ) × HasClass s.classes p c × (gs ≡ grip key.All (intended e) ∷ grip (key.Class c) (intended e) ∷ [])

-- those of each lock, one after another
abbrev pub AreFixedWishes : SchemeView → List Lock → List Grip → Type 0
AreFixedWishes s [] gs = gs ≡ []
AreFixedWishes s (l ∷ ls) gs =
    (mine : List Grip) × (rest : List Grip) × (gs ≡ mine ++ rest) × AreWishesFor s l mine × AreFixedWishes s ls rest

-- the part of a lock set's plan that is the same in all states: these keys in the join of their modes, `all` first,
-- then classes; nothing for an empty set
abbrev pub IsFixedPart : SchemeView → List Lock → List Grip → Type 0
IsFixedPart s locks part = (wishes : List Grip) × AreFixedWishes s locks wishes × (part ≡ gathered wishes)

-- what a field of the object holds, and of the object that a datum refers to; null where there is no such object
abbrev pub field_datum : Option ObjectView → ℕ → Datum
field_datum None f = Null
field_datum (Some o) f = datum_or_null (slice_get o.fields f)

abbrev pub field_of : StoreView → Datum → ℕ → Datum
field_of s (Number n) f = Null
field_of s Null f = Null
field_of s (Refers o) f = field_datum (object_at s o) f

-- what a variable holds; a section's locks name locals of its own thread alone
abbrev pub variable_datum : List Datum → Variable → Datum
variable_datum locals (variable.Global g) = Refers (object.Global g)
variable_datum locals (variable.Local t x) = local_datum locals x

-- what a path denotes; null where it goes through null
abbrev pub path_datum : StoreView → List Datum → PathView → Datum
path_datum s locals (var v) = variable_datum locals v
path_datum s locals (dot p f) = field_of s (path_datum s locals p) f.number

-- the key that a path asks for which denotes this
abbrev pub object_wish : Datum → Mode → List Grip
object_wish (Number n) m = []
object_wish Null m = []
object_wish (Refers o) m = grip (key_of o) m ∷ []

-- the objects that the path locks ask for: those that the paths denote now
abbrev pub object_wishes : StoreView → List Datum → List Lock → List Grip
object_wishes s locals [] = []
object_wishes s locals (lock.All ∷ ls) = object_wishes s locals ls
object_wishes s locals (lock.Class c r ∷ ls) = object_wishes s locals ls
object_wishes s locals (lock.Path p e ∷ ls) =
    object_wish (path_datum s locals p) (object_mode e) ++ object_wishes s locals ls

-- the plan of a lock set whose fixed part is this: classes come before objects
abbrev pub plan_of : List Grip → List Lock → StoreView → List Datum → List Grip
plan_of part locks s locals = part ++ gathered (object_wishes s locals locks)

-- the mode of a key in a list of keys with modes
abbrev pub held_mode : Key → List Grip → Option Mode
held_mode k [] = None
held_mode k (g ∷ gs) = if is_same_key k g.key then Some g.mode else held_mode k gs

-- the key is held, at least as strongly
abbrev pub is_met : Option Mode → Mode → Bool
is_met None m = false
is_met (Some n) m = is_at_least n m

-- each key of the plan is held, at least as strongly
abbrev pub meets : List Grip → List Grip → Bool
meets held [] = true
meets held (g ∷ gs) = is_met (held_mode g.key held) g.mode && meets held gs
