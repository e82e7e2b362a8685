-- What a thread holds strongly enough for an access.
use Rattle.std.specs.Prelude.{◌≡◌, ℕ, zero, suc, Bool, true, false, ◌||◌, List, Option, Some, None, slice_get}
use Rattle.sect_types.specs.declared.expansion.action.Action.{Action}
use Rattle.sect_types.specs.Statements.{TextView, Stop, Do, Choose, Loop, Section}
use Rattle.sect_types.specs.{declared.meaning.store.ObjectName.{ObjectName}, declared.meaning.store.Datum.{Datum}}
use Rattle.sect_types.specs.{Store.{ObjectView, StoreView, object_at}, Meaning.{WorkView, base_datum, name_in}}
use Rattle.sect_modes.specs.{declared.mode.Mode.{Mode}, Mode.{is_reading, is_making}}
use Rattle.sect_emit.specs.{declared.plan.Grip.{Grip}, Plan.{key_of, held_mode}}
use Rattle.sect_emit.specs.{ModeTests.{passes, is_reading_object, is_writing}, Compiled.{CompiledView}}
use Rattle.sect_emit.specs.State.{Running, ThreadState, State, IsThread}
use Rattle.sect_world.specs.Events.{guard_at}
use Rattle.sect_types.specs.declared.expansion.action.Action.TheVariants as action
use Rattle.sect_modes.specs.declared.key.Key.TheVariants as key
use Rattle.sect_types.specs.declared.meaning.store.ObjectName.TheVariants as object

-- all objects are held in X
abbrev pub holds_all : List Grip → Bool
holds_all held = passes is_writing (held_mode key.All held)

-- the mode in which a class is held, if there is one
abbrev pub class_mode_in : List Grip → Option ℕ → Option Mode
class_mode_in held None = None
class_mode_in held (Some n) = held_mode (key.Class n) held

-- the mode in which the class of a site is held
abbrev pub mode_of_class : CompiledView → List Grip → ℕ → Option Mode
mode_of_class c held site = class_mode_in held (slice_get c.scheme.classes.numbers site)

-- an object that is there: `all` is held in X, or its key passes the first test, or its class the second
abbrev pub is_held_at : CompiledView → (Mode → Bool) → (Mode → Bool) → List Grip → ObjectName → Option ObjectView → Bool
is_held_at c for_key for_class held o None = false
is_held_at c for_key for_class held o (Some x) =
    holds_all held || (passes for_key (held_mode (key_of o) held) || passes for_class (mode_of_class c held x.site))

-- the same of an object of the store; none that isn't there
abbrev pub is_held : CompiledView → (Mode → Bool) → (Mode → Bool) → StoreView → List Grip → ObjectName → Bool
is_held c for_key for_class s held o = is_held_at c for_key for_class held o (object_at s o)

-- the object of the guard if there is one, else this one
abbrev pub guard_or : Option ℕ → ObjectName → ObjectName
guard_or None o = o
guard_or (Some g) o = object.Global g

-- the object that is locked for one that is this, if it is there
abbrev pub locked_object_at : CompiledView → ObjectName → Option ObjectView → ObjectName
locked_object_at c o None = o
locked_object_at c o (Some x) = guard_or (guard_at c x.site) o

-- the object that is locked for this one: the guard of its record, or itself
abbrev pub locked_object : CompiledView → StoreView → ObjectName → ObjectName
locked_object c s o = locked_object_at c o (object_at s o)

-- who holds these keys may load from the object: the key of what is locked for it in S or X, or its class in S, SIX or
-- X; `all` in X is enough for every access
abbrev pub may_read : CompiledView → StoreView → List Grip → ObjectName → Bool
may_read c s held o = is_held c is_reading_object is_reading s held (locked_object c s o)

-- and may store to it: the key or the class in X
abbrev pub may_write : CompiledView → StoreView → List Grip → ObjectName → Bool
may_write c s held o = is_held c is_writing is_writing s held (locked_object c s o)

-- and may make an object at the site: its class in IX, SIX or X, and where its record is guarded the guard as for a
-- store
abbrev pub may_make_by : CompiledView → StoreView → List Grip → ℕ → Option ℕ → Bool
may_make_by c s held site None = holds_all held || passes is_making (mode_of_class c held site)
may_make_by c s held site (Some g) = is_held c is_writing is_writing s held (object.Global g)

-- the same, by the guard of the site's record
abbrev pub may_make : CompiledView → StoreView → List Grip → ℕ → Bool
may_make c s held site = may_make_by c s held site (guard_at c site)

-- what a step does with objects
pub data Access : Type 0 where
  Loading : ObjectName → Access
  Storing : ObjectName → Access
  Making : ℕ → Access

-- who holds these keys may do this with objects
abbrev pub may : CompiledView → StoreView → List Grip → Access → Bool
may c s held (Loading o) = may_read c s held o
may c s held (Storing o) = may_write c s held o
may c s held (Making site) = may_make c s held site

-- a load from the object, and a store to it, if there is one
abbrev pub load_of : Option ObjectName → Option Access
load_of None = None
load_of (Some o) = Some (Loading o)

abbrev pub store_of : Option ObjectName → Option Access
store_of None = None
store_of (Some o) = Some (Storing o)

-- what a statement does with objects
abbrev pub access_of : Action → List Datum → Option Access
access_of (action.Assign x v) locals = None
access_of (action.Compute x v o u) locals = None
access_of (action.New x r site) locals = Some (Making site)
access_of (action.Load x b f) locals = load_of (name_in (base_datum locals b))
access_of (action.Store b f v) locals = store_of (name_in (base_datum locals b))
access_of (action.Print v) locals = None

-- nothing where no unit of fuel is left
abbrev pub if_paid : ℕ → Option Access → Option Access
if_paid zero a = None
if_paid (suc n) a = a

-- what the first statement of a text does
abbrev pub access_in : TextView → List Datum → Option Access
access_in Stop locals = None
access_in (Do a rest) locals = access_of a locals
access_in (Choose c yes_part no_part rest) locals = None
access_in (Loop c part rest) locals = None
access_in (Section i part rest) locals = None

-- the access that the next step is; none where it is no access, or isn't done for want of fuel or through null
abbrev pub next_access : TextView → WorkView → Option Access
next_access k w = if_paid w.fuel (access_in k w.locals)

-- thread t holds strongly enough what its next step in a section loads from, stores to or makes
abbrev pub HoldsEnough : CompiledView → State → ℕ → Type 0
HoldsEnough c s t =
    (th : ThreadState) (i : ℕ) (k : TextView) (a : Access) → IsThread s t th → th.position ≡ Running i k
    → next_access k th.frame.work ≡ Some a → may c s.store th.held a ≡ true
