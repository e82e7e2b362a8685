-- Names, types and values in C. Each kind of name has a beginning of its own, so that none is a word of C.
use Rattle.std.specs.{Prelude.{ℕ, List, [], ◌++◌, slice_index_or, codes}, Fmt.{decimal}}
use Rattle.sect_front.specs.TreeView.{TreeView}
use Rattle.sect_types.specs.{Programs.{ProgramView}, declared.expansion.action.Field.{Field}}
use Rattle.sect_types.specs.declared.expansion.action.Value.{Value}
use Rattle.sect_types.specs.declared.expansion.action.Base.{Base}
use Rattle.sect_types.specs.declared.declarations.types.ValueType.{ValueType}
use Rattle.sect_types.specs.declared.declarations.types.ValueType.TheVariants.{Int, Refers}
use Rattle.sect_points.specs.declared.holders.Variable.{Variable}
use Rattle.sect_points.specs.declared.holders.Variable.TheVariants.{Global, Local}
use Rattle.sect_names.specs.Printing.{global_name, local_at, field_name}
use Rattle.sect_emit.specs.Labels.{record_name}
use Rattle.sect_c.specs.declared.context.Member.{Member}
use Rattle.sect_types.specs.declared.expansion.action.Value.TheVariants as value
use Rattle.sect_types.specs.declared.expansion.action.Base.TheVariants as base

-- the structure of a record
abbrev pub record_c : TreeView → ℕ → List ℕ
record_c t r = codes "struct r_" ++ record_name t r

abbrev pub field_c : TreeView → Field → List ℕ
field_c t f = codes "f_" ++ field_name t f

abbrev pub global_c : TreeView → ℕ → List ℕ
global_c t g = codes "g_" ++ global_name t g

-- a local of thread u: its number, and the name with which it is declared
abbrev pub local_c : TreeView → ℕ → ℕ → List ℕ
local_c t u x = codes "l" ++ decimal x ++ codes "_" ++ (local_at t u x).name

-- a type, such that a name may follow at once
abbrev pub type_c : TreeView → ValueType → List ℕ
type_c t Int = codes "int64_t "
type_c t (Refers r) = record_c t r ++ codes " *"

-- a value of thread u
abbrev pub value_c : TreeView → ℕ → Value → List ℕ
value_c t u (value.Number n) = codes "INT64_C(" ++ decimal n ++ codes ")"
value_c t u value.Null = codes "NULL"
value_c t u (value.Local x) = local_c t u x
value_c t u (value.Global g) = codes "&" ++ global_c t g

-- a reference to a global's object, or what a local holds
abbrev pub variable_c : TreeView → Variable → List ℕ
variable_c t (Global g) = codes "&" ++ global_c t g
variable_c t (Local u x) = local_c t u x

-- what stands before a field of a base's object
abbrev pub base_c : TreeView → ℕ → Base → List ℕ
base_c t u (base.Global g) = global_c t g ++ codes "."
base_c t u (base.Local x) = local_c t u x ++ codes "->"

abbrev pub member_c : TreeView → ℕ → Member → List ℕ
member_c t u m = base_c t u m.base ++ field_c t m.field

-- what a field and a variable hold
abbrev pub field_type : ProgramView → Field → ValueType
field_type p f = slice_index_or (slice_index_or p.records f.of []) f.number Int

abbrev pub local_type : ProgramView → ℕ → ℕ → ValueType
local_type p u x = slice_index_or (slice_index_or p.locals u []) x Int

abbrev pub variable_type : ProgramView → Variable → ValueType
variable_type p (Global g) = Refers (slice_index_or p.globals g 0)
variable_type p (Local u x) = local_type p u x
