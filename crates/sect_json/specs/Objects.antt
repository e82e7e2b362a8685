-- Objects as JSON. `objects_value` cites it.
use Rattle.std.specs.Prelude.{ℕ, List, [], ◌∷◌, ◌++◌, codes, slice_index_or}
use Rattle.serde_json.specs.Data.{Data, null, string}
use Rattle.sect_types.specs.{Programs.{ProgramView}, declared.meaning.store.ObjectName.TheVariants.{Global, Made}}
use Rattle.sect_types.specs.declared.meaning.store.Datum.{Datum}
use Rattle.sect_types.specs.declared.meaning.store.Datum.TheVariants.{Number, Null, Refers}
use Rattle.sect_types.specs.Store.{ObjectView, StoreView}
use Rattle.sect_store.specs.Printing.{object_name, fields_at}
use Rattle.sect_json.specs.Values.{integer, list, by_place, all_by_place, record_of}

-- a number, null, or the name of the object that is referred to
abbrev pub datum_json : ProgramView → Datum → Data
datum_json p (Number n) = integer n
datum_json p Null = null
datum_json p (Refers o) = string (object_name p o)

-- the field of this number, of an object whose fields have these names
abbrev pub field_json : ProgramView → List (List ℕ) → ℕ → Datum → Data
field_json p names f d =
    record_of ((codes "name", string (slice_index_or names f [])) ∷ (codes "value", datum_json p d) ∷ [])

-- an object of this name
abbrev pub object_json : ProgramView → List ℕ → ObjectView → Data
object_json p name o = record_of (
    (codes "fields", list (by_place (field_json p (fields_at p o.site)) 0 o.fields))
    ∷ (codes "name", string name) ∷ [])

abbrev pub global_json : ProgramView → ℕ → ObjectView → Data
global_json p g o = object_json p (object_name p (Global g)) o

abbrev pub made_json : ProgramView → ℕ → ℕ → ObjectView → Data
made_json p t n o = object_json p (object_name p (Made t n)) o

-- the objects that a thread made
abbrev pub row_json : ProgramView → ℕ → List ObjectView → List Data
row_json p t row = by_place (made_json p t) 0 row

-- in the order of keys: the globals, then by thread what it made
abbrev pub objects_json : ProgramView → StoreView → List Data
objects_json p s = by_place (global_json p) 0 s.globals ++ all_by_place (row_json p) 0 s.made
