-- A statement by numbers. The names alone decide it, and there is none where one of them isn't known. Whether its sides
-- agree in type is for the rules.
use Rattle.std.specs.Prelude.{ℕ, List, Option, Some, None, option_map}
use Rattle.sect_front.specs.{declared.tree.Operand.{Operand}, declared.tree.Test.{Test}}
use Rattle.sect_types.specs.{declared.rules.resolve.Denoted.{Denoted}, declared.rules.resolve.Given.{Given}}
use Rattle.sect_types.specs.{declared.rules.resolve.Looked.{Looked}, declared.expansion.action.Base.{Base}}
use Rattle.sect_types.specs.{declared.expansion.action.Value.{Value}, declared.expansion.action.Field.{Field}}
use Rattle.sect_types.specs.{declared.expansion.action.Condition.{Condition}, declared.expansion.action.Action.{Action}}
use Rattle.sect_types.specs.Sight.{Sight, place, names_of_records, base_of, operand_of, looked_of}
use Rattle.sect_front.specs.declared.tree.Primitive as leaf
use Rattle.sect_front.specs.declared.tree.Primitive.TheVariants as primitive
use Rattle.sect_types.specs.declared.rules.resolve.Denoted.TheVariants as denoted
use Rattle.sect_types.specs.declared.rules.resolve.Given.TheVariants as given
use Rattle.sect_types.specs.declared.rules.resolve.Looked.TheVariants as looked
use Rattle.sect_types.specs.declared.expansion.action.Base.TheVariants as base
use Rattle.sect_types.specs.declared.expansion.action.Value.TheVariants as value
use Rattle.sect_types.specs.declared.expansion.action.Action.TheVariants as action

-- what is made of two things, where both are there, and of three
abbrev pub of_both : {A B C : Type 0} → (A → B → C) → Option A → Option B → Option C
of_both f (Some a) (Some b) = Some (f a b)
of_both f _ _ = None

abbrev pub of_all : {A B C D : Type 0} → (A → B → C → D) → Option A → Option B → Option C → Option D
of_all f (Some a) (Some b) (Some c) = Some (f a b c)
of_all f _ _ _ = None

abbrev pub base_by : Denoted → Base
base_by (denoted.Local i k) = base.Local i
base_by (denoted.Global i r) = base.Global i

abbrev pub value_at : Denoted → Value
value_at (denoted.Local i k) = value.Local i
value_at (denoted.Global i r) = value.Global i

abbrev pub value_by : Given → Value
value_by (given.Number n) = value.Number n
value_by given.Null = value.Null
value_by (given.Base d) = value_at d

abbrev pub local_by : Option Denoted → Option ℕ
local_by (Some (denoted.Local i k)) = Some i
local_by _ = None

abbrev pub field_by : Looked → Option Field
field_by (looked.At f) = Some f.field
field_by _ = None

-- the local of a name, which alone can be assigned to
abbrev pub target_of : Sight → List ℕ → Option ℕ
target_of s x = local_by (base_of s x)

-- the local or global of a name
abbrev pub source_of : Sight → List ℕ → Option Base
source_of s x = option_map base_by (base_of s x)

-- the field of that name behind the dot of a base
abbrev pub field_behind : Sight → List ℕ → List ℕ → Option Field
field_behind s y f = field_by (looked_of s (base_of s y) f)

abbrev pub value_of : Sight → Operand → Option Value
value_of s v = option_map value_by (operand_of s v)

-- a statement without a block, where its new object has this site
abbrev pub action_of : Sight → ℕ → leaf.Primitive → Option Action
action_of s site (primitive.Assign x v) = of_both action.Assign (target_of s x) (value_of s v)
action_of s site (primitive.Compute x v o w) =
    of_all (λ i a b. action.Compute i a o b) (target_of s x) (value_of s v) (value_of s w)
action_of s site (primitive.New x r) =
    of_both (λ i n. action.New i n site) (target_of s x) (place r (names_of_records s.records))
action_of s site (primitive.Load x y f) = of_all action.Load (target_of s x) (source_of s y) (field_behind s y f)
action_of s site (primitive.Store y f v) = of_all action.Store (source_of s y) (field_behind s y f) (value_of s v)
action_of s site (primitive.Print v) = option_map action.Print (value_of s v)

-- a test
abbrev pub condition_of : Sight → Test → Option Condition
condition_of s t =
    of_both (λ v w. record { left = v; comparison = t.comparison; right = w }) (value_of s t.left) (value_of s t.right)
