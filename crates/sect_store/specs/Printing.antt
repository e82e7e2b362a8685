-- An outcome as it is printed. `put_outcome`, `Printer` and `put_object_name` cite it.
use Rattle.std.specs.Prelude.{ℕ, ℤ, ◌+◌, List, [], ◌∷◌, ◌++◌, Option, Some, None, slice_index_or, codes}
use Rattle.std.specs.{List.{flat_map}, Fmt.{decimal, signed_decimal}}
use Rattle.sect_types.specs.{Programs.{ProgramView, sites_of}, Sight.{names_of_globals, all_fields}}
use Rattle.sect_types.specs.{declared.meaning.store.End.{End}, declared.meaning.store.ObjectName.{ObjectName}}
use Rattle.sect_types.specs.declared.meaning.store.ObjectName.TheVariants.{Global, Made}
use Rattle.sect_types.specs.declared.meaning.store.Datum.{Datum}
use Rattle.sect_types.specs.{declared.meaning.store.Datum.TheVariants.{Number, Null, Refers}, Endings.{end_text}}
use Rattle.sect_types.specs.Store.{ObjectView, StoreView}
use Rattle.sect_store.specs.Outcomes.{OutcomeView}

-- the texts of the elements, one after another, each by its place, where the first has place n
abbrev pub by_place : {A : Type 0} → (ℕ → A → List ℕ) → ℕ → List A → List ℕ
by_place text n [] = []
by_place text n (x ∷ xs) = text n x ++ by_place text (n + 1) xs

abbrev pub state_text : Option End → List ℕ
state_text None = codes "running"
state_text (Some e) = end_text e

abbrev pub thread_line : ℕ → Option End → List ℕ
thread_line t e = codes "thread " ++ decimal t ++ codes " " ++ state_text e ++ codes "\n"

abbrev pub order_line : List ℕ → List ℕ
order_line [] = codes "order none\n"
order_line (t ∷ ts) = codes "order" ++ flat_map (λ u. codes " " ++ decimal u) (t ∷ ts) ++ codes "\n"

abbrev pub out_line : ℤ → List ℕ
out_line n = codes "out " ++ signed_decimal n ++ codes "\n"

-- a global's object has its name, one that a thread made both numbers
abbrev pub object_name : ProgramView → ObjectName → List ℕ
object_name p (Global g) = slice_index_or (names_of_globals p.source.globals) g []
object_name p (Made t n) = decimal t ++ codes "#" ++ decimal n

abbrev pub datum_text : ProgramView → Datum → List ℕ
datum_text p (Number n) = signed_decimal n
datum_text p Null = codes "null"
datum_text p (Refers o) = object_name p o

-- the names of the fields of the objects that are made at a site
abbrev pub fields_at : ProgramView → ℕ → List (List ℕ)
fields_at p site = slice_index_or (all_fields p.source.records) (slice_index_or (sites_of p.globals p.texts) site 0) []

abbrev pub field_text : ProgramView → List (List ℕ) → ℕ → Datum → List ℕ
field_text p names f d = codes " " ++ slice_index_or names f [] ++ codes "=" ++ datum_text p d

-- the fields of an object, to the end of its line
abbrev pub fields_text : ProgramView → ObjectView → List ℕ
fields_text p o = by_place (field_text p (fields_at p o.site)) 0 o.fields ++ codes "\n"

abbrev pub object_line : ProgramView → ObjectName → ObjectView → List ℕ
object_line p name o = codes "object " ++ object_name p name ++ fields_text p o

abbrev pub global_line : ProgramView → ℕ → ObjectView → List ℕ
global_line p g o = object_line p (Global g) o

abbrev pub made_line : ProgramView → ℕ → ℕ → ObjectView → List ℕ
made_line p t n o = object_line p (Made t n) o

-- the lines of the objects that a thread made
abbrev pub made_lines : ProgramView → ℕ → List ObjectView → List ℕ
made_lines p t row = by_place (made_line p t) 0 row

-- in the order of keys: the globals, then by thread what it made
abbrev pub store_lines : ProgramView → StoreView → List ℕ
store_lines p s = by_place (global_line p) 0 s.globals ++ by_place (made_lines p) 0 s.made

-- the ends, the order, the output and the objects
abbrev pub outcome_text : ProgramView → OutcomeView → List ℕ
outcome_text p o =
    by_place thread_line 0 o.ends ++ order_line o.order ++ flat_map out_line o.output ++ store_lines p o.store

-- an outcome as one of several: its number and order, and then as above
abbrev pub numbered_text : ProgramView → ℕ → OutcomeView → List ℕ
numbered_text p n o =
    codes "outcome " ++ decimal n ++ codes ": " ++ order_line o.order ++ by_place thread_line 0 o.ends
    ++ flat_map out_line o.output ++ store_lines p o.store
