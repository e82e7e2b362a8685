-- Which names are wanted, and which of them matter to what is told of an item.
use Rattle.std.specs.Prelude.{ℕ, Bool, true, false, not, ◌&&◌, ◌||◌, List, filter, nat_eq, nat_lt}
use Rattle.std.specs.Cmp.Lexicographic.{pointwise}
use Rattle.sect_places.specs.{declared.name_use.NameSpan.{NameSpan}, declared.name_use.Role.{Role}}
use Rattle.sect_places.specs.{declared.wish.Wish.{Wish}, Declarations.{is_declaration, is_procedure, is_call}}
use Rattle.sect_places.specs.declared.name_use.Role.TheVariants as role
use Rattle.sect_places.specs.declared.wish.Wish.TheVariants as wish

-- a name that does this may matter to any item: it is declared, the type of what is declared, a guard, or called
abbrev pub matters_to_all : Role → Bool
matters_to_all (role.Declared what) = true
matters_to_all role.Type = true
matters_to_all role.Guard = true
matters_to_all role.Procedure = true
matters_to_all role.Target = false
matters_to_all role.Base = false
matters_to_all role.Field = false
matters_to_all (role.Operand i) = false

-- it stands in the item, or may matter to any
abbrev pub matters : ℕ → ℕ → Role → Bool
matters own item r = nat_eq item own || matters_to_all r

-- it is declared in that item or before it
abbrev pub is_declared_by : ℕ → ℕ → Role → Bool
is_declared_by last item r = not (nat_lt last item) && is_declaration r

-- a name is wanted that does this in an item
abbrev pub is_wanted : Wish → ℕ → Role → List ℕ → Bool
is_wanted wish.All item r x = true
is_wanted (wish.Mattering own) item r x = matters own item r
is_wanted (wish.Own own) item r x = nat_eq item own
is_wanted (wish.Known own y) item r x = nat_eq item own || (is_declaration r && pointwise nat_eq y x)
is_wanted (wish.Declared last) item r x = is_declared_by last item r
is_wanted wish.Procedures item r x = is_procedure r || is_call r

-- those of these names that are wanted
abbrev pub wanted : Wish → List NameSpan → List NameSpan
wanted which names = filter (λ n. is_wanted which n.used.item n.used.role n.used.name) names
