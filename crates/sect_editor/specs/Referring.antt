-- Which declaration a name of a text refers to, and which names refer to it.
use Rattle.std.specs.Prelude.{ℕ, Bool, false, ◌&&◌, List, Option, Some, None, map, filter, nat_eq, nat_le, position}
use Rattle.std.specs.{Prelude.{option_and_then}, Cmp.Lexicographic.{pointwise}}
use Rattle.sect_front.specs.declared.span.Span.{Span}
use Rattle.sect_places.specs.{declared.name_use.NameSpan.{NameSpan}, declared.name_use.Role.{Role}}
use Rattle.sect_places.specs.Declarations.{record_of, global_of, procedure_of, type_in, base_in}
use Rattle.sect_lint.specs.Naming.{found, variable, base_by, field_by}
use Rattle.sect_places.specs.declared.name_use.Role.TheVariants as role

abbrev pub type_by : List NameSpan → Option NameSpan → Option NameSpan
type_by names None = None
type_by names (Some declared) = found names (type_in names declared.used.item)

abbrev pub record_by : List NameSpan → Option NameSpan → Option NameSpan
record_by names None = None
record_by names (Some named) = found names (record_of names named.used.name)

-- the record that what stands before the dot of an item refers to
abbrev pub base_record : List NameSpan → ℕ → Option NameSpan
base_record names item = record_by names (type_by names (base_by names (found names (base_in names item))))

-- what a name of that role refers to
abbrev pub declaration_by : List NameSpan → NameSpan → Role → Option NameSpan
declaration_by names n (role.Declared what) = Some n
declaration_by names n role.Type = found names (record_of names n.used.name)
declaration_by names n role.Guard = found names (global_of names n.used.name)
declaration_by names n role.Target = variable names n.used.scope n.used.name
declaration_by names n role.Base = variable names n.used.scope n.used.name
declaration_by names n role.Field = field_by names n.used.name (base_record names n.used.item)
declaration_by names n (role.Operand i) = variable names n.used.scope n.used.name
declaration_by names n role.Procedure = found names (procedure_of names n.used.name)

abbrev pub declaration_of : List NameSpan → NameSpan → Option NameSpan
declaration_of names n = declaration_by names n n.used.role

-- the place stands at a byte of the name, or right behind it
abbrev pub touches : ℕ → NameSpan → Bool
touches at n = nat_le n.span.start at && nat_le at n.span.end

-- the name at a place, the first that it touches
abbrev pub name_at : List NameSpan → ℕ → Option NameSpan
name_at names at = found names (position (touches at) names)

-- the declaration of the name at a place
abbrev pub declared_under : List NameSpan → ℕ → Option NameSpan
declared_under names at = option_and_then (declaration_of names) (name_at names at)

abbrev pub is_there : NameSpan → Option NameSpan → Bool
is_there d None = false
is_there d (Some e) = nat_eq e.span.start d.span.start

-- the name has the declaration's name, and refers to it
abbrev pub refers : List NameSpan → NameSpan → NameSpan → Bool
refers names d n = pointwise nat_eq n.used.name d.used.name && is_there d (declaration_of names n)

-- the bytes of all names that refer to a declaration, with its own, in text order
abbrev pub uses_of : List NameSpan → NameSpan → List Span
uses_of names d = map (λ n. n.span) (filter (refers names d) names)
