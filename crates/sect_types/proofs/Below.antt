-- What a statement by numbers names is declared.
use Rattle.std.proofs.Common.{◌≡◌, ℕ, ◌≤◌, ◌<◌, List, length, Option, Some, None, IfSome, subst, arith}
use Rattle.std.proofs.{lemmas.List.{length-map}, lemmas.Option.{slice_get_within}}
use Rattle.sect_front.specs.{declared.tree.Declaration.{Declaration}, declared.tree.Operand.{Operand}}
use Rattle.sect_front.specs.declared.tree.Test.{Test}
use Rattle.sect_types.specs.{declared.rules.resolve.Denoted.{Denoted}, declared.rules.resolve.Given.{Given}}
use Rattle.sect_types.specs.{declared.declarations.types.ValueType.{ValueType}, declared.expansion.action.Base.{Base}}
use Rattle.sect_types.specs.{declared.expansion.action.Value.{Value}, declared.expansion.action.Condition.{Condition}}
use Rattle.sect_types.specs.declared.expansion.action.Action.{Action}
use Rattle.sect_types.specs.Sight.{Sight, names_of_records, place, base_of, operand_of}
use Rattle.sect_types.specs.Numbered.{base_by, value_by, local_by, target_of, source_of, field_behind, value_of}
use Rattle.sect_types.specs.{Numbered.{action_of, condition_of}, Environments.{environment, type_of}}
use Rattle.sect_types.specs.steps.Below.{IsValueBelow, IsBaseBelow, IsActionBelow, IsConditionBelow}
use Rattle.sect_lemmas.proofs.Options.{some_injective, none_or_some, map_part}
use Rattle.sect_types.proofs.Optional.{both_parts, three_parts}
use Rattle.sect_types.proofs.SoundLemmas.{IsThere, IsGiven, base_there, operand_there}
use Rattle.sect_front.specs.declared.tree.Primitive as leaf
use Rattle.sect_front.specs.declared.tree.Primitive.TheVariants as primitive
use Rattle.sect_types.specs.declared.rules.resolve.Denoted.TheVariants as denoted
use Rattle.sect_types.specs.declared.rules.resolve.Given.TheVariants as given
use Rattle.sect_types.specs.declared.expansion.action.Action.TheVariants as action

-- as many types as declarations
long : (s : Sight) → length (environment s).locals ≡ length s.locals
long s = length-map {B = ValueType} s.locals (λ (d : Declaration). type_of (names_of_records s.records) d.kind)

-- a local that is there has its number below n, where so many locals are declared
local_below : (s : Sight) (n i : ℕ) (o : Option Denoted) → length s.locals ≤ n → IfSome o (IsThere s)
    → local_by o ≡ Some i → i < n
local_below s n i (Some (denoted.Local k t)) le h e =
    let same = some_injective k i e in
    omega (
      arith,
      le,
      long s,
      same,
      slice_get_within (environment s).locals k (type_of (names_of_records s.records) t) h,
    )
local_below s n i (Some (denoted.Global g r)) le h e = absurd (none_or_some i e)
local_below s n i None le h e = absurd (none_or_some i e)

denoted_below : (s : Sight) (n : ℕ) (d : Denoted) → length s.locals ≤ n → IsThere s d → IsBaseBelow n (base_by d)
denoted_below s n (denoted.Local i t) le h =
    omega (
      arith,
      le,
      long s,
      slice_get_within (environment s).locals i (type_of (names_of_records s.records) t) h,
    )
denoted_below s n (denoted.Global g r) le h = tt

given_below : (s : Sight) (n : ℕ) (v : Given) → length s.locals ≤ n → IsGiven s v → IsValueBelow n (value_by v)
given_below s n (given.Number m) le h = tt
given_below s n given.Null le h = tt
given_below s n (given.Base (denoted.Local i t)) le h = denoted_below s n (denoted.Local i t) le h
given_below s n (given.Base (denoted.Global g r)) le h = tt

target_below : (s : Sight) (n : ℕ) (x : List ℕ) (i : ℕ) → length s.locals ≤ n → target_of s x ≡ Some i → i < n
target_below s n x i le e = local_below s n i (base_of s x) le (base_there s x) e

source_below : (s : Sight) (n : ℕ) (x : List ℕ) (b : Base) → length s.locals ≤ n → source_of s x ≡ Some b
    → IsBaseBelow n b
source_below s n x b le e =
    let p = map_part base_by (base_of s x) b e in
    subst (IsBaseBelow n) p.2 (denoted_below s n p.0 le (subst (λ o. IfSome o (IsThere s)) p.1 (base_there s x)))

-- the locals of an operand, of a statement and of a test are declared
pub value_below : (s : Sight) (n : ℕ) (v : Operand) (w : Value) → length s.locals ≤ n → value_of s v ≡ Some w
    → IsValueBelow n w
value_below s n v w le e =
    let p = map_part value_by (operand_of s v) w e in
    subst (IsValueBelow n) p.2 (given_below s n p.0 le (subst (λ o. IfSome o (IsGiven s)) p.1 (operand_there s v)))

pub action_below : (s : Sight) (site : ℕ) (p : leaf.Primitive) (a : Action) (n : ℕ) → action_of s site p ≡ Some a
    → length s.locals ≤ n → IsActionBelow n a
action_below s site (primitive.Assign x v) a n e le =
    let p = both_parts action.Assign (target_of s x) (value_of s v) a e in
    subst (IsActionBelow n) p.is
    (target_below s n x p.first le p.first_is, value_below s n v p.second le p.second_is)
action_below s site (primitive.Compute x v o w) a n e le =
    let p = three_parts (λ i b c. action.Compute i b o c) (target_of s x) (value_of s v) (value_of s w) a e in
    subst (IsActionBelow n) p.is (
      target_below s n x p.first le p.first_is,
      value_below s n v p.second le p.second_is,
      value_below s n w p.third le p.third_is,
    )
action_below s site (primitive.New x r) a n e le =
    let p = both_parts (λ i m. action.New i m site) (target_of s x) (place r (names_of_records s.records)) a e in
    subst (IsActionBelow n) p.is (target_below s n x p.first le p.first_is)
action_below s site (primitive.Load x y f) a n e le =
    let p = three_parts action.Load (target_of s x) (source_of s y) (field_behind s y f) a e in
    subst (IsActionBelow n) p.is
    (target_below s n x p.first le p.first_is, source_below s n y p.second le p.second_is)
action_below s site (primitive.Store y f v) a n e le =
    let p = three_parts action.Store (source_of s y) (field_behind s y f) (value_of s v) a e in
    subst (IsActionBelow n) p.is
    (source_below s n y p.first le p.first_is, value_below s n v p.third le p.third_is)
action_below s site (primitive.Print v) a n e le =
    let p = map_part action.Print (value_of s v) a e in
    subst (IsActionBelow n) p.2 (value_below s n v p.0 le p.1)

pub condition_below : (s : Sight) (t : Test) (c : Condition) (n : ℕ) → condition_of s t ≡ Some c → length s.locals ≤ n
    → IsConditionBelow n c
condition_below s t c n e le =
    let p = both_parts (λ v w. record { left = v; comparison = t.comparison; right = w }) (value_of s t.left)
    (value_of s t.right) c e in
    subst (IsConditionBelow n) p.is
    (value_below s n t.left p.first le p.first_is, value_below s n t.right p.second le p.second_is)
