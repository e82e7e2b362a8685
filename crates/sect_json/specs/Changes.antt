-- What a turn changes of the objects, as JSON. `changed_values` cites it.
use Rattle.std.specs.Prelude.{ℕ, List, [], ◌∷◌, Option, Some, None, codes, slice_get, slice_index_or, if◌then◌else◌}
use Rattle.serde_json.specs.Data.{Data, string}
use Rattle.sect_types.specs.{Programs.{ProgramView}, declared.meaning.store.ObjectName.{ObjectName}}
use Rattle.sect_types.specs.declared.meaning.store.ObjectName.TheVariants.{Made}
use Rattle.sect_types.specs.declared.meaning.store.Datum.{Datum}
use Rattle.sect_types.specs.Store.{ObjectView, StoreView, object_at, same_datum}
use Rattle.sect_types.specs.Meaning.{WorkView, Change, Unchanged, Written, Added, Next, On, Off, datum_or_null}
use Rattle.sect_store.specs.Printing.{object_name, fields_at}
use Rattle.sect_emit.specs.{Compiled.{CompiledView}, State.{ThreadState, State}}
use Rattle.sect_emit.specs.State.{Position, Outside, Entered, Running, Faulted}
use Rattle.sect_world.specs.Events.{step_in}
use Rattle.sect_json.specs.{Values.{by_place, record_of}, Objects.{datum_json}}

-- what a step does to the store; a fault leaves it as it is
abbrev pub change_of : Next → Change
change_of (On rest w change) = change
change_of (Off why w) = Unchanged

-- what the next step of thread t does to the store, where it is there and works with this: outside its section nothing
abbrev pub change_at : CompiledView → ℕ → StoreView → WorkView → Position → Change
change_at c t s w Outside = Unchanged
change_at c t s w Entered = Unchanged
change_at c t s w (Running i k) = change_of (step_in c t k w s)
change_at c t s w (Faulted i why) = Unchanged

abbrev pub change_in : CompiledView → State → ℕ → Option ThreadState → Change
change_in c s t None = Unchanged
change_in c s t (Some th) = change_at c t s.store th.frame.work th.position

-- what the next turn of thread t does to the store
abbrev pub next_change : CompiledView → State → ℕ → Change
next_change c s t = change_in c s t (slice_get s.threads t)

-- the field of this name, of the object of this name, and what it holds afterwards
abbrev pub changed_json : ProgramView → ObjectName → List ℕ → Datum → Data
changed_json p o name d = record_of (
    (codes "name", string name)
    ∷ (codes "object", string (object_name p o))
    ∷ (codes "value", datum_json p d) ∷ [])

-- the field of this number, of an object whose fields have these names
abbrev pub placed_json : ProgramView → ObjectName → List (List ℕ) → ℕ → Datum → Data
placed_json p o names f d = changed_json p o (slice_index_or names f []) d

-- a field to which this is written, where that is something else than it held
abbrev pub written_json : ProgramView → ObjectName → ℕ → Datum → Option ObjectView → List Data
written_json p o f d None = []
written_json p o f d (Some x) =
    if same_datum (datum_or_null (slice_get x.fields f)) d then [] else
    placed_json p o (fields_at p x.site) f d ∷ []

-- the fields of the objects of a store that a change by thread t changes, which has made n objects before: of a new
-- object all
abbrev pub changes_json : ProgramView → StoreView → ℕ → ℕ → Change → List Data
changes_json p s t n Unchanged = []
changes_json p s t n (Written o f d) = written_json p o f d (object_at s o)
changes_json p s t n (Added x) = by_place (placed_json p (Made t n) (fields_at p x.site)) 0 x.fields
