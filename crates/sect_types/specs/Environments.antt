-- Declarations by number.
use Rattle.std.specs.Prelude.{ℕ, ⊤, ◌<◌, List, map, unwrap_or}
use Rattle.sect_front.specs.{declared.tree.Record.{Record}, declared.tree.GlobalObject.{GlobalObject}}
use Rattle.sect_front.specs.{declared.tree.Declaration.{Declaration}, declared.tree.Kind.{Kind}}
use Rattle.sect_types.specs.declared.declarations.types.ValueType.{ValueType}
use Rattle.sect_types.specs.declared.declarations.types.ValueType.TheVariants.{Int, Refers}
use Rattle.sect_types.specs.Sight.{Sight, place, names_of_records}
use Rattle.sect_front.specs.declared.tree.Kind.TheVariants as kind

-- what a thread's statements see: the types of the fields of each record, the record of each global, the types of
-- the thread's locals
pub record Environment : Type 0 where
  pub records : List (List ValueType)
  pub globals : List ℕ
  pub locals : List ValueType

-- the number of the record of that name
abbrev pub record_number : List (List ℕ) → List ℕ → ℕ
record_number records r = unwrap_or (place r records) 0

-- the type that is written so, where the records have these names
abbrev pub type_of : List (List ℕ) → Kind → ValueType
type_of records kind.Int = Int
type_of records (kind.Record r) = Refers (record_number records r)

abbrev pub types_of : List (List ℕ) → List Declaration → List ValueType
types_of records ds = map (λ (d : Declaration). type_of records d.kind) ds

abbrev pub field_types : List (List ℕ) → List Record → List (List ValueType)
field_types records rs = map (λ (r : Record). types_of records r.fields) rs

abbrev pub global_records : List (List ℕ) → List GlobalObject → List ℕ
global_records records gs = map (λ (g : GlobalObject). record_number records g.of) gs

-- the declarations that a statement sees, by number
abbrev pub environment : Sight → Environment
environment s = record {
  records = field_types (names_of_records s.records) s.records;
  globals = global_records (names_of_records s.records) s.globals;
  locals = types_of (names_of_records s.records) s.locals;
}

-- the record of a reference is one of n records
abbrev pub IsInRange : ℕ → ValueType → Type 0
IsInRange n Int = ⊤
IsInRange n (Refers r) = r < n
