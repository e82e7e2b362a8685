-- Objects by name, and the store that keeps them. The methods of `sect_store::Store` cite it.
use Rattle.std.specs.Prelude.{ℕ, Bool, true, false, ◌&&◌, List, [], ◌∷◌, ◌++◌, length, Option, Some, None, slice_get}
use Rattle.std.specs.Ordering.{int_eq}
use Rattle.sect_types.specs.declared.meaning.store.ObjectName.{ObjectName}
use Rattle.sect_types.specs.declared.meaning.store.ObjectName.TheVariants.{Global, Made}
use Rattle.sect_types.specs.declared.meaning.store.Datum.{Datum}
use Rattle.sect_types.specs.declared.meaning.store.Datum.TheVariants.{Number, Null, Refers}
use Rattle.sect_lemmas.specs.{Lists.{changed_at, put_at}, Numbers.{same_number}}

-- the site at which it was made, and its fields; the object of a global has the global's number as site
pub record ObjectView : Type 0 where
  pub site : ℕ
  pub fields : List Datum

-- the objects of the globals, and for each thread those that it made, in order
pub record StoreView : Type 0 where
  pub globals : List ObjectView
  pub made : List (List ObjectView)

abbrev pub same_name : ObjectName → ObjectName → Bool
same_name (Global g) (Global h) = same_number g h
same_name (Global g) (Made t n) = false
same_name (Made t n) (Global g) = false
same_name (Made t n) (Made u m) = same_number t u && same_number n m

abbrev pub same_datum : Datum → Datum → Bool
same_datum (Number n) (Number m) = int_eq n m
same_datum Null Null = true
same_datum (Refers o) (Refers q) = same_name o q
same_datum _ _ = false

abbrev pub row_in : Option (List ObjectView) → List ObjectView
row_in None = []
row_in (Some row) = row

-- the objects that thread t made
abbrev pub row : StoreView → ℕ → List ObjectView
row s t = row_in (slice_get s.made t)

-- how many objects thread t made
abbrev pub count : StoreView → ℕ → ℕ
count s t = length (row s t)

abbrev pub object_at : StoreView → ObjectName → Option ObjectView
object_at s (Global g) = slice_get s.globals g
object_at s (Made t n) = slice_get (row s t) n

-- the object with this in the field of that number
abbrev pub with_field : ℕ → Datum → ObjectView → ObjectView
with_field f d o = record { site = o.site; fields = put_at f d o.fields }

-- the store after this is written to a field of that object
abbrev pub write : StoreView → ObjectName → ℕ → Datum → StoreView
write s (Global g) f d = record { globals = changed_at g (with_field f d) s.globals; made = s.made }
write s (Made t n) f d = record { globals = s.globals; made = changed_at t (changed_at n (with_field f d)) s.made }

-- the store with one object more that thread t made
abbrev pub add : StoreView → ℕ → ObjectView → StoreView
add s t o = record { globals = s.globals; made = changed_at t (λ objects. objects ++ o ∷ []) s.made }
