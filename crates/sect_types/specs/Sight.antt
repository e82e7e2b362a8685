-- What a statement sees, and what its names denote.
use Rattle.std.specs.Prelude.{◌≡◌, ℕ, Bool, List, [], ◌∷◌, ◌++◌, map, Option, Some, None, nat_eq, position, slice_get}
use Rattle.std.specs.{Prelude.{if◌then◌else◌}, List.{list_any}, Cmp.Lexicographic.{pointwise}}
use Rattle.sect_front.specs.{declared.tree.Record.{Record}, declared.tree.GlobalObject.{GlobalObject}}
use Rattle.sect_front.specs.{declared.tree.Declaration.{Declaration}, declared.tree.Kind.{Kind}}
use Rattle.sect_front.specs.declared.tree.Operand.{Operand}
use Rattle.sect_types.specs.{declared.rules.resolve.Denoted.{Denoted}, declared.rules.resolve.Given.{Given}}
use Rattle.sect_types.specs.{declared.rules.resolve.Looked.{Looked}, declared.rules.resolve.FieldAt.{FieldAt}}
use Rattle.sect_front.specs.declared.tree.Kind.TheVariants as kind
use Rattle.sect_front.specs.declared.tree.Operand.TheVariants as operand
use Rattle.sect_types.specs.declared.rules.resolve.Denoted.TheVariants as denoted
use Rattle.sect_types.specs.declared.rules.resolve.Given.TheVariants as given
use Rattle.sect_types.specs.declared.rules.resolve.Looked.TheVariants as looked

-- the declarations of the text, and the locals of the thread
pub record Sight : Type 0 where
  pub records : List Record
  pub globals : List GlobalObject
  pub locals : List Declaration

abbrev pub same_name : List ℕ → List ℕ → Bool
same_name x y = pointwise nat_eq x y

abbrev pub names_of_records : List Record → List (List ℕ)
names_of_records rs = map (λ (r : Record). r.name) rs

abbrev pub names_of_globals : List GlobalObject → List (List ℕ)
names_of_globals gs = map (λ (g : GlobalObject). g.name) gs

abbrev pub names_of_declared : List Declaration → List (List ℕ)
names_of_declared ds = map (λ (d : Declaration). d.name) ds

-- the number of a name
abbrev pub place : List ℕ → List (List ℕ) → Option ℕ
place x names = position (pointwise nat_eq x) names

-- a name is among these
abbrev pub has_name : List ℕ → List (List ℕ) → Bool
has_name x names = list_any (pointwise nat_eq x) names

abbrev pub added : List (List ℕ) → List ℕ → List (List ℕ)
added names x = if has_name x names then names else names ++ x ∷ []

abbrev pub local_with : ℕ → Option Declaration → Option Denoted
local_with i None = None
local_with i (Some d) = Some (denoted.Local i d.kind)

abbrev pub local_at : List Declaration → Option ℕ → Option Denoted
local_at ds None = None
local_at ds (Some i) = local_with i (slice_get ds i)

abbrev pub global_with : ℕ → Option GlobalObject → Option Denoted
global_with i None = None
global_with i (Some g) = Some (denoted.Global i g.of)

abbrev pub global_at : List GlobalObject → Option ℕ → Option Denoted
global_at gs None = None
global_at gs (Some i) = global_with i (slice_get gs i)

abbrev pub or_else : Option Denoted → Option Denoted → Option Denoted
or_else (Some d) other = Some d
or_else None other = other

-- what a name denotes: a local of the thread, else a global
abbrev pub base_of : Sight → List ℕ → Option Denoted
base_of s x = or_else (local_at s.locals (place x (names_of_declared s.locals)))
    (global_at s.globals (place x (names_of_globals s.globals)))

-- what it holds
abbrev pub kind_of : Denoted → Kind
kind_of (denoted.Local i k) = k
kind_of (denoted.Global i r) = kind.Record r

abbrev pub given_by : Option Denoted → Option Given
given_by None = None
given_by (Some d) = Some (given.Base d)

abbrev pub operand_of : Sight → Operand → Option Given
operand_of s (operand.Number n) = Some (given.Number n)
operand_of s operand.Null = Some given.Null
operand_of s (operand.Name x) = given_by (base_of s x)

abbrev pub field_with : ℕ → ℕ → Option Declaration → Option FieldAt
field_with r i None = None
field_with r i (Some d) = Some (record { field = record { of = r; number = i }; kind = d.kind })

abbrev pub field_at : ℕ → List Declaration → Option ℕ → Option FieldAt
field_at r ds None = None
field_at r ds (Some i) = field_with r i (slice_get ds i)

abbrev pub field_in : ℕ → List ℕ → Option Record → Option FieldAt
field_in r f None = None
field_in r f (Some x) = field_at r x.fields (place f (names_of_declared x.fields))

abbrev pub field_of_number : List Record → List ℕ → Option ℕ → Option FieldAt
field_of_number rs f None = None
field_of_number rs f (Some r) = field_in r f (slice_get rs r)

-- a field of a record, both by name
abbrev pub field_of : Sight → List ℕ → List ℕ → Option FieldAt
field_of s r f = field_of_number s.records f (place r (names_of_records s.records))

abbrev pub field_looked : Option FieldAt → Looked
field_looked None = looked.Missing
field_looked (Some f) = looked.At f

abbrev pub looked_in : Sight → Kind → List ℕ → Looked
looked_in s kind.Int f = looked.OfInt
looked_in s (kind.Record r) f = field_looked (field_of s r f)

-- the field of a base
abbrev pub looked_of : Sight → Option Denoted → List ℕ → Looked
looked_of s None f = looked.Missing
looked_of s (Some d) f = looked_in s (kind_of d) f

abbrev pub all_fields : List Record → List (List (List ℕ))
all_fields rs = map (λ (r : Record). names_of_declared r.fields) rs

-- the names are those of the declarations
pub record IsNamed (records : List Record) (record_names : List (List ℕ)) (field_names : List (List (List ℕ)))
    (globals : List GlobalObject) (global_names : List (List ℕ)) (locals : List Declaration)
    (local_names : List (List ℕ)) : Type 0 where
  pub of_records : record_names ≡ names_of_records records
  pub of_fields : field_names ≡ all_fields records
  pub of_globals : global_names ≡ names_of_globals globals
  pub of_locals : local_names ≡ names_of_declared locals
