-- Statements by numbers and their types at once: an action, or the rule of types that is broken. What holds of each of
-- its cases holds of `action_of` where the types agree.
use Rattle.std.specs.Prelude.{ℕ, Bool, true, false, ◌&&◌, List, Option, Some, None, Result, Ok, Err}
use Rattle.sect_front.specs.{declared.tree.Comparison.{Comparison}, declared.tree.Operator.{Operator}}
use Rattle.sect_front.specs.declared.tree.Test.{Test}
use Rattle.sect_types.specs.{declared.rules.rule.Rule.{Rule}, declared.rules.rule.Rule.TheVariants.{Unknown, WrongType}}
use Rattle.sect_types.specs.{declared.rules.resolve.Denoted.{Denoted}, declared.rules.resolve.Given.{Given}}
use Rattle.sect_types.specs.{declared.rules.resolve.Looked.{Looked}, declared.rules.resolve.FieldAt.{FieldAt}}
use Rattle.sect_types.specs.{declared.expansion.action.Condition.{Condition}, declared.expansion.action.Action.{Action}}
use Rattle.sect_types.specs.Sight.{Sight, place, names_of_records, base_of, operand_of, looked_of}
use Rattle.sect_types.specs.{Kinds.{same_kind, accepts, comparable}, Numbered.{base_by, value_by}}
use Rattle.sect_front.specs.declared.tree.Kind.TheVariants as kind
use Rattle.sect_front.specs.declared.tree.Primitive as leaf
use Rattle.sect_front.specs.declared.tree.Primitive.TheVariants as primitive
use Rattle.sect_types.specs.declared.rules.resolve.Denoted.TheVariants as denoted
use Rattle.sect_types.specs.declared.rules.resolve.Looked.TheVariants as looked
use Rattle.sect_types.specs.declared.expansion.action.Action.TheVariants as action

abbrev pub well_typed : Bool → Action → Result Action Rule
well_typed true a = Ok a
well_typed false a = Err WrongType

abbrev pub assign_to : Denoted → Given → Result Action Rule
assign_to (denoted.Local x k) v = well_typed (accepts k v) (action.Assign x (value_by v))
assign_to (denoted.Global g r) v = Err WrongType

abbrev pub assign_of : Option Denoted → Option Given → Result Action Rule
assign_of (Some x) (Some v) = assign_to x v
assign_of (Some x) None = Err Unknown
assign_of None v = Err Unknown

abbrev pub compute_to : Denoted → Given → Operator → Given → Result Action Rule
compute_to (denoted.Local x k) v o w =
    well_typed (same_kind k kind.Int && accepts kind.Int v && accepts kind.Int w)
    (action.Compute x (value_by v) o (value_by w))
compute_to (denoted.Global g r) v o w = Err WrongType

abbrev pub compute_of : Option Denoted → Option Given → Operator → Option Given → Result Action Rule
compute_of (Some x) (Some v) o (Some w) = compute_to x v o w
compute_of (Some x) (Some v) o None = Err Unknown
compute_of (Some x) None o w = Err Unknown
compute_of None v o w = Err Unknown

abbrev pub new_to : Denoted → List ℕ → ℕ → ℕ → Result Action Rule
new_to (denoted.Local x k) r n site = well_typed (same_kind k (kind.Record r)) (action.New x n site)
new_to (denoted.Global g q) r n site = Err WrongType

abbrev pub new_of : Option Denoted → List ℕ → Option ℕ → ℕ → Result Action Rule
new_of (Some x) r (Some n) site = new_to x r n site
new_of (Some x) r None site = Err Unknown
new_of None r n site = Err Unknown

abbrev pub load_to : Denoted → Denoted → FieldAt → Result Action Rule
load_to (denoted.Local x k) y f = well_typed (same_kind k f.kind) (action.Load x (base_by y) f.field)
load_to (denoted.Global g r) y f = Err WrongType

abbrev pub load_at : Denoted → Denoted → Looked → Result Action Rule
load_at x y (looked.At f) = load_to x y f
load_at x y looked.OfInt = Err WrongType
load_at x y looked.Missing = Err Unknown

abbrev pub load_of : Option Denoted → Option Denoted → Looked → Result Action Rule
load_of (Some x) (Some y) f = load_at x y f
load_of (Some x) None f = Err Unknown
load_of None y f = Err Unknown

abbrev pub store_at : Denoted → Looked → Given → Result Action Rule
store_at y (looked.At f) v = well_typed (accepts f.kind v) (action.Store (base_by y) f.field (value_by v))
store_at y looked.OfInt v = Err WrongType
store_at y looked.Missing v = Err Unknown

abbrev pub store_of : Option Denoted → Looked → Option Given → Result Action Rule
store_of (Some y) f (Some v) = store_at y f v
store_of (Some y) f None = Err Unknown
store_of None f v = Err Unknown

abbrev pub print_of : Option Given → Result Action Rule
print_of (Some v) = well_typed (accepts kind.Int v) (action.Print (value_by v))
print_of None = Err Unknown

-- a statement by numbers, where its new object has this site
abbrev pub primitive_of : Sight → ℕ → leaf.Primitive → Result Action Rule
primitive_of s site (primitive.Assign x v) = assign_of (base_of s x) (operand_of s v)
primitive_of s site (primitive.Compute x v o w) = compute_of (base_of s x) (operand_of s v) o (operand_of s w)
primitive_of s site (primitive.New x r) = new_of (base_of s x) r (place r (names_of_records s.records)) site
primitive_of s site (primitive.Load x y f) = load_of (base_of s x) (base_of s y) (looked_of s (base_of s y) f)
primitive_of s site (primitive.Store y f v) = store_of (base_of s y) (looked_of s (base_of s y) f) (operand_of s v)
primitive_of s site (primitive.Print v) = print_of (operand_of s v)

abbrev pub well_typed_test : Bool → Condition → Result Condition Rule
well_typed_test true c = Ok c
well_typed_test false c = Err WrongType

abbrev pub compared_of : Option Given → Comparison → Option Given → Result Condition Rule
compared_of (Some v) c (Some w) =
    well_typed_test (comparable c v w) (record { left = value_by v; comparison = c; right = value_by w })
compared_of (Some v) c None = Err Unknown
compared_of None c w = Err Unknown

abbrev pub test_of : Sight → Test → Result Condition Rule
test_of s t = compared_of (operand_of s t.left) t.comparison (operand_of s t.right)
