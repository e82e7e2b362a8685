-- Fields of a store, and what statements do on a part of it. `act_apart` cites it.
use Rattle.std.specs.Prelude.{◌≡◌, ⊤, ℕ, Bool, ◌&&◌, List, [], ◌∷◌, Option, Some, None, slice_get}
use Rattle.std.specs.Prelude.{if◌then◌else◌}
use Rattle.sect_lemmas.specs.Numbers.{same_number}
use Rattle.sect_types.specs.declared.expansion.action.Action.{Action}
use Rattle.sect_types.specs.declared.expansion.action.Action.TheVariants as action
use Rattle.sect_types.specs.{Programs.{ProgramView}, declared.meaning.store.ObjectName.{ObjectName}}
use Rattle.sect_types.specs.{declared.meaning.store.Datum.{Datum}, declared.meaning.store.Fault.{Fault}}
use Rattle.sect_types.specs.Store.{ObjectView, StoreView, same_name, object_at, write}
use Rattle.sect_types.specs.{Meaning.{WorkView, one, done, looked, found_at}, Whole.{Left, left_by}}
use Rattle.sect_store.specs.{declared.part.Cell.{Cell}, declared.part.Part.{Part}, declared.part.Tried.{Tried}}
use Rattle.sect_store.specs.{declared.part.Tried.TheVariants.{Went, Fell, Beyond}, Working.{left_with}}

-- the object is there, and its field holds this
abbrev pub Shows : StoreView → Cell → Type 0
Shows s x = (o : ObjectView) × (object_at s x.name ≡ Some o) × (slice_get o.fields x.field ≡ Some x.datum)

-- so it is with all of these
abbrev pub ShowsAll : StoreView → List Cell → Type 0
ShowsAll s [] = ⊤
ShowsAll s (x ∷ xs) = Shows s x × ShowsAll s xs

-- the store after these writes, one after another
abbrev pub written : StoreView → List Cell → StoreView
written s [] = s
written s (x ∷ xs) = written (write s x.name x.field x.datum) xs

-- after the part's writes the store shows the part's cells
abbrev pub IsPartOf : Part → StoreView → Type 0
IsPartOf part s = ShowsAll (written s part.writes.items) part.cells.items

-- both have the same cells and writes
abbrev pub IsSamePart : Part → Part → Type 0
IsSamePart old new = (new.cells.items ≡ old.cells.items) × (new.writes.items ≡ old.writes.items)

-- the cell is that field of that object
abbrev pub is_cell_of : ObjectName → ℕ → Cell → Bool
is_cell_of o f x = same_name o x.name && same_number f x.field

-- the cell once this is written to that field of that object
abbrev pub updated : ObjectName → ℕ → Datum → Cell → Cell
updated o f d x = if is_cell_of o f x then record { name = x.name; field = x.field; datum = d } else x

-- the statement that leaves this in each store leaves the work v there, and the writes of the new part, or this fault,
-- wherever the old part was a part of the store; the new one is then
abbrev pub LeavesThere : (StoreView → Left) → Option Fault → WorkView → Part → Part → Type 0
LeavesThere left fault v old new =
    (s : StoreView) → IsPartOf old s
    → IsPartOf new s × (left_with fault v (written s new.writes.items) ≡ left (written s old.writes.items))

-- what a statement has come to on a part that leaves this in each store, whatever the program and the thread
abbrev pub ComesTo : (ProgramView → ℕ → StoreView → Left) → WorkView → WorkView → Part → Part → Tried → Type 0
ComesTo left w v old new Went = (p : ProgramView) (t : ℕ) → LeavesThere (left p t) None v old new
ComesTo left w v old new (Fell why) = (p : ProgramView) (t : ℕ) → LeavesThere (left p t) (Some why) v old new
ComesTo left w v old new Beyond = (v ≡ w) × IsSamePart old new

-- what the statement of a thread of a program leaves in a store
abbrev pub left_in : Action → WorkView → ProgramView → ℕ → StoreView → Left
left_in a w p t s = left_by t s (one p t a (found_at s (looked a w.locals)) w)

-- and once its unit of fuel is paid
abbrev pub left_paid : Action → WorkView → ProgramView → ℕ → StoreView → Left
left_paid a w p t s = left_by t s (done p t a (found_at s (looked a w.locals)) w)

-- it makes no object
abbrev pub MakesNone : Action → Type 0
MakesNone (action.Assign x v) = ⊤
MakesNone (action.Compute x v o u) = ⊤
MakesNone (action.New x r site) = ⊥
MakesNone (action.Load x b f) = ⊤
MakesNone (action.Store b f v) = ⊤
MakesNone (action.Print v) = ⊤

-- only a statement that makes no object is done or comes to a fault
abbrev pub MayComeTo : Action → Tried → Type 0
MayComeTo a Went = MakesNone a
MayComeTo a (Fell why) = MakesNone a
MayComeTo a Beyond = ⊤
