-- Which declaration a name of a text refers to: the number among the text's names of the name that is declared.
use Rattle.std.specs.{Prelude.{ℕ, Bool, true, false, ◌&&◌, List, Option, nat_eq, position}, Option.{option_or}}
use Rattle.std.specs.Cmp.Lexicographic.{pointwise}
use Rattle.sect_places.specs.{declared.name_use.NameSpan.{NameSpan}, declared.name_use.Role.{Role}}
use Rattle.sect_places.specs.declared.name_use.Thing.TheVariants as thing
use Rattle.sect_places.specs.declared.name_use.Role.TheVariants as role

abbrev pub is_declaration : Role → Bool
is_declaration (role.Declared what) = true
is_declaration _ = false

abbrev pub is_record : Role → Bool
is_record (role.Declared thing.Record) = true
is_record _ = false

abbrev pub is_field : Role → Bool
is_field (role.Declared thing.Field) = true
is_field _ = false

abbrev pub is_global : Role → Bool
is_global (role.Declared thing.Global) = true
is_global _ = false

abbrev pub is_procedure : Role → Bool
is_procedure (role.Declared thing.Procedure) = true
is_procedure _ = false

abbrev pub is_thread : Role → Bool
is_thread (role.Declared thing.Thread) = true
is_thread _ = false

abbrev pub is_local : Role → Bool
is_local (role.Declared thing.Local) = true
is_local _ = false

abbrev pub is_type : Role → Bool
is_type role.Type = true
is_type _ = false

abbrev pub is_base : Role → Bool
is_base role.Base = true
is_base _ = false

-- it is that of a procedure which is called
abbrev pub is_call : Role → Bool
is_call role.Procedure = true
is_call _ = false

-- it does that, and is called so
abbrev pub is_called : (Role → Bool) → List ℕ → NameSpan → Bool
is_called does x n = does n.used.role && pointwise nat_eq x n.used.name

-- and stands in the declaration that is this item
abbrev pub is_called_in : (Role → Bool) → ℕ → List ℕ → NameSpan → Bool
is_called_in does scope x n = nat_eq n.used.scope scope && is_called does x n

-- it does that in this item
abbrev pub does_in : (Role → Bool) → ℕ → NameSpan → Bool
does_in does item n = nat_eq n.used.item item && does n.used.role

-- the record, the global or the procedure of a name
abbrev pub record_of : List NameSpan → List ℕ → Option ℕ
record_of names x = position (is_called is_record x) names

abbrev pub global_of : List NameSpan → List ℕ → Option ℕ
global_of names x = position (is_called is_global x) names

abbrev pub procedure_of : List NameSpan → List ℕ → Option ℕ
procedure_of names x = position (is_called is_procedure x) names

-- the field of a name in the record that is this item
abbrev pub field_of : List NameSpan → ℕ → List ℕ → Option ℕ
field_of names scope x = position (is_called_in is_field scope x) names

-- the local of a name in the thread or procedure that is this item
abbrev pub local_of : List NameSpan → ℕ → List ℕ → Option ℕ
local_of names scope x = position (is_called_in is_local scope x) names

-- the local, or else the global, that a name denotes in the thread or procedure that is this item
abbrev pub variable_of : List NameSpan → ℕ → List ℕ → Option ℕ
variable_of names scope x = option_or (local_of names scope x) (global_of names x)

-- the name of the record that the declaration of this item refers to, unless it is an `int`
abbrev pub type_in : List NameSpan → ℕ → Option ℕ
type_in names item = position (does_in is_type item) names

-- the name before the dot in this item
abbrev pub base_in : List NameSpan → ℕ → Option ℕ
base_in names item = position (does_in is_base item) names
