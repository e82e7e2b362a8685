-- What the names of a text tell of a mistake.
use Rattle.std.specs.Prelude.{ℕ, Bool, true, false, not, ◌&&◌, ◌||◌, List, Option, Some, None, option_map, is_some}
use Rattle.std.specs.{Prelude.{nat_eq, nat_lt, position, slice_get}, Cmp.Lexicographic.{pointwise}}
use Rattle.sect_places.specs.{declared.name_use.NameSpan.{NameSpan}, declared.name_use.Thing.{Thing}}
use Rattle.sect_places.specs.declared.name_use.Role.{Role}
use Rattle.sect_places.specs.Declarations.{is_declaration, is_record, is_field, is_global, is_procedure, is_thread}
use Rattle.sect_places.specs.Declarations.{is_local, record_of, global_of, procedure_of, field_of, variable_of, type_in}
use Rattle.sect_places.specs.Declarations.{base_in}
use Rattle.sect_lint.specs.declared.diagnostic.Detail.{Detail}
use Rattle.sect_places.specs.declared.name_use.Thing.TheVariants as thing
use Rattle.sect_places.specs.declared.name_use.Role.TheVariants as role
use Rattle.sect_lint.specs.declared.diagnostic.Detail.TheVariants as detail

-- the name of that number, if one is given
abbrev pub found : List NameSpan → Option ℕ → Option NameSpan
found names None = None
found names (Some k) = slice_get names k

abbrev pub name_of : NameSpan → List ℕ
name_of n = n.used.name

-- the record that what is declared refers to, unless it is an `int`
abbrev pub type_of : List NameSpan → NameSpan → Option (List ℕ)
type_of names declared = option_map name_of (found names (type_in names declared.used.item))

-- the declaration of a variable
abbrev pub variable : List NameSpan → ℕ → List ℕ → Option NameSpan
variable names scope x = found names (variable_of names scope x)

abbrev pub base_by : List NameSpan → Option NameSpan → Option NameSpan
base_by names None = None
base_by names (Some b) = variable names b.used.scope b.used.name

abbrev pub type_by : List NameSpan → Option NameSpan → Option (List ℕ)
type_by names None = None
type_by names (Some declared) = type_of names declared

-- the record that what stands before the dot of an item refers to, if it refers to one
abbrev pub base_type : List NameSpan → ℕ → Option (List ℕ)
base_type names item = type_by names (base_by names (found names (base_in names item)))

abbrev pub field_by : List NameSpan → List ℕ → Option NameSpan → Option NameSpan
field_by names f None = None
field_by names f (Some declared) = found names (field_of names declared.used.item f)

-- the field of a record, both by name
abbrev pub field_in : List NameSpan → List ℕ → List ℕ → Option NameSpan
field_in names f r = field_by names f (found names (record_of names r))

abbrev pub member_by : List NameSpan → List ℕ → Option (List ℕ) → Option NameSpan
member_by names f (Some r) = field_in names f r
member_by names f None = None

-- the field behind the dot of an item
abbrev pub member_of : List NameSpan → ℕ → List ℕ → Option NameSpan
member_of names item f = member_by names f (base_type names item)

-- what doesn't refer to a record has no fields, and that is another mistake
abbrev pub knows_field : List NameSpan → List ℕ → Option (List ℕ) → Bool
knows_field names f (Some r) = is_some (field_in names f r)
knows_field names f None = true

-- the name of that role has a declaration
abbrev pub knows : List NameSpan → NameSpan → Role → Bool
knows names n (role.Declared what) = true
knows names n role.Type = is_some (record_of names n.used.name)
knows names n role.Guard = is_some (global_of names n.used.name)
knows names n role.Target = is_some (variable_of names n.used.scope n.used.name)
knows names n role.Base = is_some (variable_of names n.used.scope n.used.name)
knows names n role.Field = knows_field names n.used.name (base_type names n.used.item)
knows names n (role.Operand i) = is_some (variable_of names n.used.scope n.used.name)
knows names n role.Procedure = is_some (procedure_of names n.used.name)

abbrev pub is_unknown_in : List NameSpan → ℕ → NameSpan → Bool
is_unknown_in names item n = nat_eq n.used.item item && not (knows names n n.used.role)

abbrev pub unknown_at : List NameSpan → ℕ → Option ℕ
unknown_at names item = position (is_unknown_in names item) names

-- the first name of an item that nothing has
abbrev pub unknown_name : List NameSpan → ℕ → Option NameSpan
unknown_name names item = found names (unknown_at names item)

-- things of one kind have different names, fields and locals in their declaration, and a local hasn't that of a global
abbrev pub clashes : Thing → Role → Bool → Bool
clashes thing.Record r here = is_record r
clashes thing.Field r here = here && is_field r
clashes thing.Global r here = is_global r
clashes thing.Procedure r here = is_procedure r
clashes thing.Thread r here = is_thread r
clashes thing.Local r here = (here && is_local r) || is_global r

abbrev pub clashes_by : Role → Role → Bool → Bool
clashes_by (role.Declared what) r here = clashes what r here
clashes_by role.Type r here = false
clashes_by role.Guard r here = false
clashes_by role.Target r here = false
clashes_by role.Base r here = false
clashes_by role.Field r here = false
clashes_by (role.Operand i) r here = false
clashes_by role.Procedure r here = false

-- the second is declared before the first, and has its name
abbrev pub is_earlier : NameSpan → NameSpan → Bool
is_earlier d n =
    nat_lt n.used.item d.used.item && (pointwise nat_eq n.used.name d.used.name
    && clashes_by d.used.role n.used.role (nat_eq n.used.scope d.used.scope))

abbrev pub is_declared_in : ℕ → NameSpan → Bool
is_declared_in item n = nat_eq n.used.item item && is_declaration n.used.role

abbrev pub declared_at : List NameSpan → ℕ → Option ℕ
declared_at names item = position (is_declared_in item) names

abbrev pub earlier_at : List NameSpan → NameSpan → Option ℕ
earlier_at names d = position (is_earlier d) names

abbrev pub earlier_of : List NameSpan → Option NameSpan → Option NameSpan
earlier_of names None = None
earlier_of names (Some d) = found names (earlier_at names d)

-- the first declaration of the name that an item declares again
abbrev pub earlier_name : List NameSpan → ℕ → Option NameSpan
earlier_name names item = earlier_of names (found names (declared_at names item))

abbrev pub earlier_detail : Option NameSpan → Detail
earlier_detail None = detail.Nothing
earlier_detail (Some n) = detail.Earlier n.span
