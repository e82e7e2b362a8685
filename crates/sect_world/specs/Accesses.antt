-- The access of a step is all that it has to do with objects.
use Rattle.std.specs.Prelude.{◌≡◌, ⊤, ℕ, Option, Some}
use Rattle.sect_types.specs.{Statements.{TextView}, Programs.{ProgramView}}
use Rattle.sect_types.specs.{declared.meaning.store.ObjectName.{ObjectName}, Store.{ObjectView, StoreView, object_at}}
use Rattle.sect_types.specs.Meaning.{WorkView, Change, Unchanged, Written, Added, found_at, Next, On, Off, next, looks}
use Rattle.sect_world.specs.Held.{Access, Loading, Storing, Making, next_access}

-- what a step does to the store
abbrev pub change_in : Next → Change
change_in (On k w ch) = ch
change_in (Off why w) = Unchanged

-- the step asks for the access that its change is
abbrev pub Asks : Change → Option Access → Type 0
Asks Unchanged a = ⊤
Asks (Written z f d) a = a ≡ Some (Storing z)
Asks (Added x) a = a ≡ Some (Making x.site)

-- a step changes no object but by the access that `next_access` names
abbrev pub ChangesAreAccesses : Type 0
ChangesAreAccesses =
    (p : ProgramView) (t : ℕ) (k : TextView) (found : Option ObjectView) (w : WorkView)
    → Asks (change_in (next p t k found w)) (next_access k w)

-- and depends on none but the one that `next_access` says it loads from
abbrev pub StepsLookWhereTheyLoad : Type 0
StepsLookWhereTheyLoad =
    (p : ProgramView) (t : ℕ) (k : TextView) (w : WorkView) (here store : StoreView)
    → ((o : ObjectName) → next_access k w ≡ Some (Loading o) → object_at here o ≡ object_at store o)
    → next p t k (found_at here (looks k w)) w ≡ next p t k (found_at store (looks k w)) w
