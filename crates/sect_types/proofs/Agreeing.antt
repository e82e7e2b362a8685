-- Where the rules of types are kept, a statement has its action by numbers.
use Rattle.std.specs.Prelude.{◌&&◌, option_map}
use Rattle.std.proofs.Common.{◌≡◌, ℕ, Bool, true, false, List, Option, Some, None, Result, Ok, refl}
use Rattle.sect_front.specs.{declared.tree.Test.{Test}, declared.tree.Operator.{Operator}}
use Rattle.sect_front.specs.declared.tree.Comparison.{Comparison}
use Rattle.sect_types.specs.{declared.rules.rule.Rule.{Rule}, declared.rules.rule.Rule.TheVariants.{Unknown, WrongType}}
use Rattle.sect_types.specs.{declared.rules.resolve.Denoted.{Denoted}, declared.rules.resolve.Given.{Given}}
use Rattle.sect_types.specs.{declared.rules.resolve.Looked.{Looked}, declared.expansion.action.Action.{Action}}
use Rattle.sect_types.specs.declared.expansion.action.Condition.{Condition}
use Rattle.sect_types.specs.Sight.{Sight, place, names_of_records, base_of, operand_of, looked_of}
use Rattle.sect_types.specs.Kinds.{same_kind, accepts, comparable}
use Rattle.sect_types.specs.Numbered.{of_both, of_all, base_by, value_by, local_by, field_by, action_of, condition_of}
use Rattle.sect_types.specs.steps.Walks.{rule_in}
use Rattle.sect_types.proofs.Typing.{well_typed, well_typed_test, assign_of, compute_of, new_of, load_of, store_of}
use Rattle.sect_types.proofs.Typing.{print_of, compared_of, primitive_of, test_of}
use Rattle.sect_front.specs.declared.tree.Primitive as leaf
use Rattle.sect_front.specs.declared.tree.Primitive.TheVariants as primitive
use Rattle.sect_front.specs.declared.tree.Kind.TheVariants as kind
use Rattle.sect_types.specs.declared.rules.resolve.Denoted.TheVariants as denoted
use Rattle.sect_types.specs.declared.rules.resolve.Looked.TheVariants as looked
use Rattle.sect_types.specs.declared.expansion.action.Action.TheVariants as action

-- what keeps the rules is there by numbers
pub record IsLinked (A : Type 0) (r : Result A Rule) (o : Option A) : Type 0 where
  pub what : A
  pub typed : r ≡ Ok what
  pub numbered : o ≡ Some what

well_typed_ok : (b : Bool) (a : Action) → rule_in (well_typed b a) ≡ None → well_typed b a ≡ Ok a
well_typed_ok true a e = refl
well_typed_ok false a e = absurd (let off : Some WrongType ≡ None = e in cc)

well_typed_test_ok : (b : Bool) (c : Condition) → rule_in (well_typed_test b c) ≡ None → well_typed_test b c ≡ Ok c
well_typed_test_ok true c e = refl
well_typed_test_ok false c e = absurd (let off : Some WrongType ≡ None = e in cc)

assign_linked : (x : Option Denoted) (v : Option Given) → rule_in (assign_of x v) ≡ None
    → IsLinked Action (assign_of x v) (of_both action.Assign (local_by x) (option_map value_by v))
assign_linked (Some (denoted.Local i k)) (Some v) e =
    record { what = action.Assign i (value_by v); typed = well_typed_ok (accepts k v) _ e; numbered = refl }
assign_linked (Some (denoted.Global i r)) (Some v) e = absurd (let off : Some WrongType ≡ None = e in cc)
assign_linked (Some x) None e = absurd (let off : Some Unknown ≡ None = e in cc)
assign_linked None v e = absurd (let off : Some Unknown ≡ None = e in cc)

compute_linked : (x : Option Denoted) (v : Option Given) (o : Operator) (w : Option Given)
    → rule_in (compute_of x v o w) ≡ None
    → IsLinked Action (compute_of x v o w)
    (of_all (λ i a b. action.Compute i a o b) (local_by x) (option_map value_by v) (option_map value_by w))
compute_linked (Some (denoted.Local i k)) (Some v) o (Some w) e = record {
  what = action.Compute i (value_by v) o (value_by w);
  typed = well_typed_ok (same_kind k kind.Int && accepts kind.Int v && accepts kind.Int w) _ e;
  numbered = refl;
}
compute_linked (Some (denoted.Global i r)) (Some v) o (Some w) e = absurd (let off : Some WrongType ≡ None = e in cc)
compute_linked (Some x) (Some v) o None e = absurd (let off : Some Unknown ≡ None = e in cc)
compute_linked (Some x) None o w e = absurd (let off : Some Unknown ≡ None = e in cc)
compute_linked None v o w e = absurd (let off : Some Unknown ≡ None = e in cc)

new_linked : (x : Option Denoted) (r : List ℕ) (n : Option ℕ) (site : ℕ) → rule_in (new_of x r n site) ≡ None
    → IsLinked Action (new_of x r n site) (of_both (λ i m. action.New i m site) (local_by x) n)
new_linked (Some (denoted.Local i k)) r (Some n) site e =
    record { what = action.New i n site; typed = well_typed_ok (same_kind k (kind.Record r)) _ e; numbered = refl }
new_linked (Some (denoted.Global i q)) r (Some n) site e = absurd (let off : Some WrongType ≡ None = e in cc)
new_linked (Some x) r None site e = absurd (let off : Some Unknown ≡ None = e in cc)
new_linked None r n site e = absurd (let off : Some Unknown ≡ None = e in cc)

load_linked : (x y : Option Denoted) (f : Looked) → rule_in (load_of x y f) ≡ None
    → IsLinked Action (load_of x y f) (of_all action.Load (local_by x) (option_map base_by y) (field_by f))
load_linked (Some (denoted.Local i k)) (Some y) (looked.At f) e = record {
  what = action.Load i (base_by y) f.field;
  typed = well_typed_ok (same_kind k f.kind) _ e;
  numbered = refl;
}
load_linked (Some (denoted.Global i q)) (Some y) (looked.At f) e = absurd (let off : Some WrongType ≡ None = e in cc)
load_linked (Some x) (Some y) looked.OfInt e = absurd (let off : Some WrongType ≡ None = e in cc)
load_linked (Some x) (Some y) looked.Missing e = absurd (let off : Some Unknown ≡ None = e in cc)
load_linked (Some x) None f e = absurd (let off : Some Unknown ≡ None = e in cc)
load_linked None y f e = absurd (let off : Some Unknown ≡ None = e in cc)

store_linked : (y : Option Denoted) (f : Looked) (v : Option Given) → rule_in (store_of y f v) ≡ None
    → IsLinked Action (store_of y f v) (of_all action.Store (option_map base_by y) (field_by f) (option_map value_by v))
store_linked (Some y) (looked.At f) (Some v) e = record {
  what = action.Store (base_by y) f.field (value_by v);
  typed = well_typed_ok (accepts f.kind v) _ e;
  numbered = refl;
}
store_linked (Some y) looked.OfInt (Some v) e = absurd (let off : Some WrongType ≡ None = e in cc)
store_linked (Some y) looked.Missing (Some v) e = absurd (let off : Some Unknown ≡ None = e in cc)
store_linked (Some y) f None e = absurd (let off : Some Unknown ≡ None = e in cc)
store_linked None f v e = absurd (let off : Some Unknown ≡ None = e in cc)

print_linked : (v : Option Given) → rule_in (print_of v) ≡ None
    → IsLinked Action (print_of v) (option_map action.Print (option_map value_by v))
print_linked (Some v) e =
    record { what = action.Print (value_by v); typed = well_typed_ok (accepts kind.Int v) _ e; numbered = refl }
print_linked None e = absurd (let off : Some Unknown ≡ None = e in cc)

compared_linked : (v : Option Given) (c : Comparison) (w : Option Given) → rule_in (compared_of v c w) ≡ None
    → IsLinked Condition (compared_of v c w)
    (of_both (λ a b. record { left = a; comparison = c; right = b }) (option_map value_by v) (option_map value_by w))
compared_linked (Some v) c (Some w) e = record {
  what = record { left = value_by v; comparison = c; right = value_by w };
  typed = well_typed_test_ok (comparable c v w) _ e;
  numbered = refl;
}
compared_linked (Some v) c None e = absurd (let off : Some Unknown ≡ None = e in cc)
compared_linked None c w e = absurd (let off : Some Unknown ≡ None = e in cc)

-- a statement without a block
pub linked : (s : Sight) (site : ℕ) (p : leaf.Primitive) → rule_in (primitive_of s site p) ≡ None
    → IsLinked Action (primitive_of s site p) (action_of s site p)
linked s site (primitive.Assign x v) e = assign_linked (base_of s x) (operand_of s v) e
linked s site (primitive.Compute x v o w) e = compute_linked (base_of s x) (operand_of s v) o (operand_of s w) e
linked s site (primitive.New x r) e = new_linked (base_of s x) r (place r (names_of_records s.records)) site e
linked s site (primitive.Load x y f) e = load_linked (base_of s x) (base_of s y) (looked_of s (base_of s y) f) e
linked s site (primitive.Store y f v) e = store_linked (base_of s y) (looked_of s (base_of s y) f) (operand_of s v) e
linked s site (primitive.Print v) e = print_linked (operand_of s v) e

-- a test
pub test_linked : (s : Sight) (t : Test) → rule_in (test_of s t) ≡ None
    → IsLinked Condition (test_of s t) (condition_of s t)
test_linked s t e = compared_linked (operand_of s t.left) t.comparison (operand_of s t.right) e
