-- What resolving a statement says of the rules.
use Rattle.std.proofs.Common.{◌≡◌, ℕ, ◌+◌, nat_eq, Bool, true, false, not, ◌&&◌, ◌||◌, List, [], ◌∷◌, Option, Some}
use Rattle.std.proofs.Common.{None, is_some, if◌then◌else◌, refl, ap, sym, ◌∙◌, cond, nat_lt, length}
use Rattle.std.specs.{Cmp.Lexicographic.{pointwise}, List.{list_any, prefix_len}, Prelude.{nat_le}}
use Rattle.sect_front.specs.{declared.tree.Test.{Test}, declared.tree.Operator.{Operator}}
use Rattle.sect_front.specs.{declared.tree.Comparison.{Comparison}, declared.tree.Procedure.{Procedure}}
use Rattle.sect_types.specs.declared.rules.rule.Rule.{Rule}
use Rattle.sect_types.specs.declared.rules.rule.Rule.TheVariants.{Unknown, WrongType, SharedOutside, TooMany}
use Rattle.sect_types.specs.{declared.rules.resolve.Denoted.{Denoted}, declared.rules.resolve.Given.{Given}}
use Rattle.sect_types.specs.{declared.rules.resolve.Looked.{Looked}, declared.expansion.action.Action.{Action}}
use Rattle.sect_types.specs.declared.expansion.action.Condition.{Condition}
use Rattle.sect_types.specs.Sight.{Sight, place, has_name, names_of_records, base_of, operand_of, looked_of}
use Rattle.sect_types.specs.{Kinds.{same_kind, accepts, comparable}, declared.rules.place.Place.{Place}}
use Rattle.sect_types.specs.{declared.rules.place.Place.TheVariants.{InThread, InProcedure}, Limits.{most_statements}}
use Rattle.sect_types.specs.Items.{Head, PrimitiveHead, TestHead, Item, AStatement, is_inside}
use Rattle.sect_types.specs.Rules.{knows_primitive, primitive_agrees, knows_test, test_agrees, compares, has_field}
use Rattle.sect_types.specs.Rules.{local_accepts, local_is, local_gets, field_accepts, is_int, Declared, Counts, shares}
use Rattle.sect_types.specs.Rules.{by_place, after_item, after_primitive, passes_limit, after}
use Rattle.sect_types.proofs.Typing.{well_typed, well_typed_test, assign_of, compute_of, new_of, load_of, store_of}
use Rattle.sect_types.proofs.Typing.{print_of, compared_of, primitive_of, test_of}
use Rattle.sect_types.proofs.Numbering.{lifts, starts}
use Rattle.sect_types.specs.steps.{Spots.{full_for}, Standing.{declared_by}, Judging.{rule_of, judge, fault_or, Faulty}}
use Rattle.sect_types.specs.steps.Walks.{rule_in, of_types, then_rest}
use Rattle.sect_front.specs.declared.tree.Primitive as leaf
use Rattle.sect_front.specs.declared.tree.Primitive.TheVariants as primitive
use Rattle.sect_front.specs.declared.tree.Kind.TheVariants as kind
use Rattle.sect_types.specs.declared.rules.resolve.Denoted.TheVariants as denoted
use Rattle.sect_types.specs.declared.rules.resolve.Looked.TheVariants as looked

well_typed_law : (b : Bool) (a : Action) → rule_in (well_typed b a) ≡ of_types true b
well_typed_law true a = refl
well_typed_law false a = refl

well_typed_test_law : (b : Bool) (c : Condition) → rule_in (well_typed_test b c) ≡ of_types true b
well_typed_test_law true c = refl
well_typed_test_law false c = refl

assign_law : (x : Option Denoted) (v : Option Given)
    → rule_in (assign_of x v) ≡ of_types (is_some x && is_some v) (local_accepts x v)
assign_law (Some (denoted.Local i k)) (Some v) = well_typed_law (accepts k v) _
assign_law (Some (denoted.Global i r)) (Some v) = refl
assign_law (Some x) None = refl
assign_law None v = refl

compute_law : (x : Option Denoted) (v : Option Given) (o : Operator) (w : Option Given)
    → rule_in (compute_of x v o w) ≡ of_types (is_some x && (is_some v && is_some w))
    (local_is x kind.Int && is_int v && is_int w)
compute_law (Some (denoted.Local i k)) (Some v) o (Some w) =
    well_typed_law (same_kind k kind.Int && accepts kind.Int v && accepts kind.Int w) _
compute_law (Some (denoted.Global i r)) (Some v) o (Some w) = refl
compute_law (Some x) (Some v) o None = refl
compute_law (Some x) None o w = refl
compute_law None v o w = refl

new_law : (x : Option Denoted) (r : List ℕ) (n : Option ℕ) (site : ℕ)
    → rule_in (new_of x r n site) ≡ of_types (is_some x && is_some n) (local_is x (kind.Record r))
new_law (Some (denoted.Local i k)) r (Some n) site = well_typed_law (same_kind k (kind.Record r)) _
new_law (Some (denoted.Global i q)) r (Some n) site = refl
new_law (Some x) r None site = refl
new_law None r n site = refl

load_law : (x y : Option Denoted) (f : Looked)
    → rule_in (load_of x y f) ≡ of_types (is_some x && (is_some y && has_field f)) (local_gets x f)
load_law (Some (denoted.Local i k)) (Some y) (looked.At f) = well_typed_law (same_kind k f.kind) _
load_law (Some (denoted.Global i q)) (Some y) (looked.At f) = refl
load_law (Some x) (Some y) looked.OfInt = refl
load_law (Some x) (Some y) looked.Missing = refl
load_law (Some x) None f = refl
load_law None y f = refl

store_law : (y : Option Denoted) (f : Looked) (v : Option Given)
    → rule_in (store_of y f v) ≡ of_types (is_some y && (has_field f && is_some v)) (field_accepts f v)
store_law (Some y) (looked.At f) (Some v) = well_typed_law (accepts f.kind v) _
store_law (Some y) looked.OfInt (Some v) = refl
store_law (Some y) looked.Missing (Some v) = refl
store_law (Some y) (looked.At f) None = refl
store_law (Some y) looked.OfInt None = refl
store_law (Some y) looked.Missing None = refl
store_law None f v = refl

print_law : (v : Option Given) → rule_in (print_of v) ≡ of_types (is_some v) (is_int v)
print_law (Some v) = well_typed_law (accepts kind.Int v) _
print_law None = refl

condition_law : (v : Option Given) (c : Comparison) (w : Option Given)
    → rule_in (compared_of v c w) ≡ of_types (is_some v && is_some w) (compares c v w)
condition_law (Some v) c (Some w) = well_typed_test_law (comparable c v w) _
condition_law (Some v) c None = refl
condition_law None c w = refl

shown : (b : Bool) (n : ℕ) → is_some (cond b (Some n) None) ≡ b
shown true n = refl
shown false n = refl

first_place : (p : List ℕ → Bool) (xs : List (List ℕ))
    → nat_lt (prefix_len (λ x. not (p x)) xs) (length xs) ≡ list_any p xs
first_place p [] = refl
first_place p (x ∷ xs) = by (p x) (first_place p xs)
  where
    by : (b : Bool) → nat_lt (prefix_len (λ x. not (p x)) xs) (length xs) ≡ list_any p xs
        → nat_lt (cond (not b) (1 + prefix_len (λ x. not (p x)) xs) 0) (length (x ∷ xs)) ≡ (b || list_any p xs)
    by true h = starts (length xs) (length (x ∷ xs)) refl
    by false h = lifts (prefix_len (λ x. not (p x)) xs) (length xs) (length (x ∷ xs)) refl ∙ h

-- a name has a number exactly where it is among them
pub placed : (x : List ℕ) (names : List (List ℕ)) → is_some (place x names) ≡ has_name x names
placed x names = shown (nat_lt (prefix_len (λ y. not (pointwise nat_eq x y)) names) (length names)) _
    ∙ first_place (pointwise nat_eq x) names

pub primitive_law : (s : Sight) (site : ℕ) (p : leaf.Primitive)
    → rule_in (primitive_of s site p) ≡ of_types (knows_primitive s p) (primitive_agrees s p)
primitive_law s site (primitive.Assign x v) = assign_law (base_of s x) (operand_of s v)
primitive_law s site (primitive.Compute x v o w) = compute_law (base_of s x) (operand_of s v) o (operand_of s w)
primitive_law s site (primitive.New x r) =
    new_law (base_of s x) r (place r (names_of_records s.records)) site
    ∙ ap (λ b. of_types (is_some (base_of s x) && b) (local_is (base_of s x) (kind.Record r)))
    (placed r (names_of_records s.records))
primitive_law s site (primitive.Load x y f) = load_law (base_of s x) (base_of s y) (looked_of s (base_of s y) f)
primitive_law s site (primitive.Store y f v) = store_law (base_of s y) (looked_of s (base_of s y) f) (operand_of s v)
primitive_law s site (primitive.Print v) = print_law (operand_of s v)

pub test_law : (s : Sight) (t : Test)
    → rule_in (test_of s t) ≡ of_types (knows_test s t) (test_agrees s t)
test_law s t = condition_law (operand_of s t.left) t.comparison (operand_of s t.right)

pub least_law : (k r o m : Bool) → (if not k then Some Unknown else (if k && not r then Some WrongType else
    (if o then Some SharedOutside else (if m then Some TooMany else None)))) ≡ then_rest (of_types k r) o m
least_law false r o m = refl
least_law true true o m = refl
least_law true false o m = refl

-- what a statement without a block passes is so many
full_law : (d : Declared) (c : Counts) (s : Sight) (at : Place) (p : leaf.Primitive)
    → passes_limit d c s at (PrimitiveHead p) ≡ full_for c p
full_law d c s at (primitive.Assign x v) = refl
full_law d c s at (primitive.Compute x v o w) = refl
full_law d c s at (primitive.New x r) = refl
full_law d c s at (primitive.Load x y f) = refl
full_law d c s at (primitive.Store y f v) = refl
full_law d c s at (primitive.Print v) = refl

-- a plain statement
pub primitive_rule : (s : Sight) (ps : List Procedure) (c : Counts) (at : Place) (p : leaf.Primitive)
    → rule_of (declared_by s ps) c (AStatement (PrimitiveHead p) s.locals at)
    ≡ then_rest (of_types (knows_primitive s p) (primitive_agrees s p)) (shares (PrimitiveHead p) && not (is_inside at))
    (by_place at (full_for c p) false)
primitive_rule s ps c at p =
    let o = shares (PrimitiveHead p) && not (is_inside at) in
    let full = passes_limit (declared_by s ps) c s at (PrimitiveHead p) in
    least_law (knows_primitive s p) (primitive_agrees s p) o (by_place at full false)
    ∙ ap (λ b. then_rest (of_types (knows_primitive s p) (primitive_agrees s p)) o (by_place at b false))
    (full_law (declared_by s ps) c s at p)

-- a test
pub test_rule : (s : Sight) (ps : List Procedure) (c : Counts) (at : Place) (t : Test)
    → rule_of (declared_by s ps) c (AStatement (TestHead t) s.locals at)
    ≡ then_rest (of_types (knows_test s t) (test_agrees s t)) false
    (by_place at (nat_le most_statements c.statements) false)
test_rule s ps c at t =
    least_law (knows_test s t) (test_agrees s t) false (by_place at (nat_le most_statements c.statements) false)

-- an item that breaks nothing is passed, and another is the fault
pub passed : (d : Declared) (c e : Counts) (item : Item) → rule_of d c item ≡ None → e ≡ after d c item
    → (w : List Item) → judge d c (item ∷ w) ≡ judge d e w
passed d c e item h f w = ap (λ r. fault_or r c.items (judge d (after d c item) w)) h ∙ ap (λ x. judge d x w) (sym f)

pub faulty : (d : Declared) (c : Counts) (item : Item) (i : ℕ) (r : Rule) → rule_of d c item ≡ Some r → i ≡ c.items
    → (w : List Item) → judge d c (item ∷ w) ≡ Faulty i r
faulty d c item i r e f w = ap (λ x. fault_or x c.items (judge d (after d c item) w)) e ∙ ap (λ j. Faulty j r) (sym f)

-- in a thread a statement counts as its head does, in a procedure as an item alone
pub after_here : (s : Sight) (ps : List Procedure) (c : Counts) (at : Place) (p : leaf.Primitive)
    → by_place at true false ≡ true
    → after (declared_by s ps) c (AStatement (PrimitiveHead p) s.locals at) ≡ after_primitive c p
after_here s ps c (InThread i d) p e = refl
after_here s ps c (InProcedure q) p e = absurd cc

pub after_elsewhere : (s : Sight) (ps : List Procedure) (c : Counts) (at : Place) (h : Head)
    → by_place at true false ≡ false → after (declared_by s ps) c (AStatement h s.locals at) ≡ after_item c
after_elsewhere s ps c (InThread i d) h e = absurd cc
after_elsewhere s ps c (InProcedure q) h e = refl
