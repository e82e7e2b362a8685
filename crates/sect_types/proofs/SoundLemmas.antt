-- What is typed is sound by number.
use Rattle.std.proofs.Common.{◌≡◌, ℕ, nat_eq, Bool, true, false, not, ◌&&◌, List, Option, Some, None, IfOk, IfSome}
use Rattle.std.proofs.Common.{slice_get, refl, sym, ap, ◌∙◌, true≢false, arith, ◌<◌, cond, nat_lt, length, ◌⊎◌, inl}
use Rattle.std.proofs.{Common.{inr}, lemmas.List.{length-map}}
use Rattle.std.proofs.lemmas.Bool.{and_parts}
use Rattle.std.specs.{Bool.{⊤}, Cmp.Lexicographic.{pointwise}, List.{prefix_len}}
use borrow.Author.Tests.{ltb-true}
use Rattle.std.specs.Prelude.{unwrap_or}
use Rattle.sect_lemmas.proofs.Replaced.{at_map}
use Rattle.sect_front.specs.{declared.tree.Kind.{Kind}, declared.tree.Operand.{Operand}}
use Rattle.sect_front.specs.{declared.tree.Operator.{Operator}, declared.tree.Comparison.{Comparison}}
use Rattle.sect_front.specs.{declared.tree.Test.{Test}, declared.tree.GlobalObject.{GlobalObject}}
use Rattle.sect_front.specs.{declared.tree.Declaration.{Declaration}, declared.tree.Record.{Record}}
use Rattle.sect_types.specs.{declared.rules.resolve.Denoted.{Denoted}, declared.rules.resolve.Given.{Given}}
use Rattle.sect_types.specs.declared.rules.resolve.FieldAt.{FieldAt}
use Rattle.sect_types.specs.declared.declarations.types.ValueType.{ValueType}
use Rattle.sect_types.specs.declared.declarations.types.ValueType.TheVariants.{Int, Refers}
use Rattle.sect_types.specs.{declared.expansion.action.Action.{Action}, declared.expansion.action.Condition.{Condition}}
use Rattle.sect_types.specs.Sight.{Sight, given_by, base_of, operand_of, kind_of, local_at, local_with, global_at}
use Rattle.sect_types.specs.Sight.{global_with, or_else, place, names_of_declared, names_of_globals, names_of_records}
use Rattle.sect_types.specs.Sight.{field_with, field_at, field_in, field_of, field_of_number, field_looked, looked_in}
use Rattle.sect_types.specs.Sight.{looked_of}
use Rattle.sect_types.specs.Kinds.{same_kind, is_reference, accepts, of_one_kind, compares_integers, comparable}
use Rattle.sect_types.specs.{Numbered.{base_by, value_at, value_by}, Items.{PrimitiveHead}, Rules.{shares}}
use Rattle.sect_types.specs.Environments.{Environment, environment, record_number, type_of, types_of}
use Rattle.sect_types.specs.Sound.{reference_to, type_at, type_in, field_type, HasType, IsSoundAction, AreAlike}
use Rattle.sect_types.specs.Sound.{AreComparable, IsSoundCondition, is_shared, IsSound}
use Rattle.sect_types.specs.Statements.{Stop, Do}
use Rattle.sect_types.proofs.Typing.{well_typed, well_typed_test, assign_of, compute_of, new_of, load_at, load_of}
use Rattle.sect_types.proofs.Typing.{store_at, store_of, print_of, compared_of, primitive_of, test_of}
use Rattle.sect_types.proofs.shared.SoundLemmas.{same_names}
use Rattle.sect_front.specs.declared.tree.Kind.TheVariants as kind
use Rattle.sect_front.specs.declared.tree.Operand.TheVariants as operand
use Rattle.sect_front.specs.declared.tree.Primitive as leaf
use Rattle.sect_front.specs.declared.tree.Primitive.TheVariants as primitive
use Rattle.sect_types.specs.declared.rules.resolve.Denoted.TheVariants as denoted
use Rattle.sect_types.specs.declared.rules.resolve.Given.TheVariants as given
use Rattle.sect_types.specs.declared.expansion.action.Action.TheVariants as action

-- two types that are the same as written are the same by number
same_types : (rs : List (List ℕ)) (k l : Kind) → same_kind k l ≡ true → type_of rs k ≡ type_of rs l
same_types rs kind.Int kind.Int e = refl
same_types rs kind.Int (kind.Record q) e = absurd (true≢false (sym e))
same_types rs (kind.Record r) kind.Int e = absurd (true≢false (sym e))
same_types rs (kind.Record r) (kind.Record q) e = ap (λ x. Refers (record_number rs x)) (same_names r q e)

-- what a name denotes is there, with its type
abbrev pub IsThere : Sight → Denoted → Type 0
IsThere s d = type_at (environment s) (base_by d) ≡ Some (type_of (names_of_records s.records) (kind_of d))

local_there : (s : Sight) (i : ℕ) (o : Option Declaration) → slice_get s.locals i ≡ o
    → IfSome (local_with i o) (IsThere s)
local_there s i None e = tt
local_there s i (Some d) e = at_map (λ (x : Declaration). type_of (names_of_records s.records) x.kind) s.locals i d e

global_there : (s : Sight) (i : ℕ) (o : Option GlobalObject) → slice_get s.globals i ≡ o
    → IfSome (global_with i o) (IsThere s)
global_there s i None e = tt
global_there s i (Some g) e = ap reference_to
    (at_map (λ (x : GlobalObject). record_number (names_of_records s.records) x.of) s.globals i g e)

locals_there : (s : Sight) (o : Option ℕ) → IfSome (local_at s.locals o) (IsThere s)
locals_there s None = tt
locals_there s (Some i) = local_there s i (slice_get s.locals i) refl

globals_there : (s : Sight) (o : Option ℕ) → IfSome (global_at s.globals o) (IsThere s)
globals_there s None = tt
globals_there s (Some i) = global_there s i (slice_get s.globals i) refl

either_there : (s : Sight) (a b : Option Denoted) → IfSome a (IsThere s) → IfSome b (IsThere s)
    → IfSome (or_else a b) (IsThere s)
either_there s (Some d) b p q = p
either_there s None b p q = q

pub base_there : (s : Sight) (x : List ℕ) → IfSome (base_of s x) (IsThere s)
base_there s x =
    either_there s (local_at s.locals (place x (names_of_declared s.locals)))
    (global_at s.globals (place x (names_of_globals s.globals))) (locals_there s _) (globals_there s _)

-- an operand that is a name denotes what is there
abbrev pub IsGiven : Sight → Given → Type 0
IsGiven s (given.Number n) = ⊤
IsGiven s given.Null = ⊤
IsGiven s (given.Base d) = IsThere s d

given_there : (s : Sight) (o : Option Denoted) → IfSome o (IsThere s) → IfSome (given_by o) (IsGiven s)
given_there s None h = tt
given_there s (Some d) h = h

pub operand_there : (s : Sight) (v : Operand) → IfSome (operand_of s v) (IsGiven s)
operand_there s (operand.Number n) = tt
operand_there s operand.Null = tt
operand_there s (operand.Name x) = given_there s (base_of s x) (base_there s x)

-- what a name denotes has its type as a value too
denoted_has : (s : Sight) (d : Denoted) (t : ValueType) → type_at (environment s) (base_by d) ≡ Some t
    → HasType (environment s) (value_at d) t
denoted_has s (denoted.Local i k) t h = h
denoted_has s (denoted.Global g r) t h = h

base_has : (s : Sight) (k : Kind) (d : Denoted) → IsThere s d → same_kind k (kind_of d) ≡ true
    → HasType (environment s) (value_at d) (type_of (names_of_records s.records) k)
base_has s k d h e = denoted_has s d (type_of (names_of_records s.records) k)
    (h ∙ ap Some (sym (same_types (names_of_records s.records) k (kind_of d) e)))

pub accepts_has : (s : Sight) (k : Kind) (v : Given) → IsGiven s v → accepts k v ≡ true
    → HasType (environment s) (value_by v) (type_of (names_of_records s.records) k)
accepts_has s kind.Int (given.Number n) h e = tt
accepts_has s kind.Int given.Null h e = absurd (true≢false (sym e))
accepts_has s (kind.Record r) (given.Number n) h e = absurd (true≢false (sym e))
accepts_has s (kind.Record r) given.Null h e = tt
accepts_has s kind.Int (given.Base d) h e = base_has s kind.Int d h e
accepts_has s (kind.Record r) (given.Base d) h e = base_has s (kind.Record r) d h e

-- an action that is sound, and touches shared things where this says so
abbrev Fits : Environment → Bool → Action → Type 0
Fits e b a = IsSoundAction e a × (is_shared a ≡ b)

well_typed_sound : (e : Environment) (b : Bool) (c : Bool) (a : Action) → (c ≡ true → Fits e b a)
    → IfOk (well_typed c a) (Fits e b)
well_typed_sound e b true a h = h refl
well_typed_sound e b false a h = tt

assign_sound : (s : Sight) (x : Option Denoted) (v : Option Given) → IfSome x (IsThere s) → IfSome v (IsGiven s)
    → IfOk (assign_of x v) (Fits (environment s) false)
assign_sound s (Some (denoted.Local i k)) (Some v) p q =
    well_typed_sound (environment s) false (accepts k v) _
    (λ e. ((type_of (names_of_records s.records) k, p, accepts_has s k v q e), refl))
assign_sound s (Some (denoted.Global i r)) (Some v) p q = tt
assign_sound s (Some x) None p q = tt
assign_sound s None v p q = tt

compute_sound : (s : Sight) (x : Option Denoted) (v : Option Given) (o : Operator) (w : Option Given)
    → IfSome x (IsThere s) → IfSome v (IsGiven s) → IfSome w (IsGiven s)
    → IfOk (compute_of x v o w) (Fits (environment s) false)
compute_sound s (Some (denoted.Local i k)) (Some v) o (Some w) p q r =
    well_typed_sound (environment s) false (same_kind k kind.Int && accepts kind.Int v && accepts kind.Int w) _ by
  where
    by : (same_kind k kind.Int && accepts kind.Int v && accepts kind.Int w) ≡ true
        → Fits (environment s) false (action.Compute i (value_by v) o (value_by w))
    by e =
        let first = and_parts (same_kind k kind.Int && accepts kind.Int v) (accepts kind.Int w) e in
        let second = and_parts (same_kind k kind.Int) (accepts kind.Int v) first.0 in (
          (
            p ∙ ap Some (same_types (names_of_records s.records) k kind.Int second.0),
            accepts_has s kind.Int v q second.1,
            accepts_has s kind.Int w r first.1,
          ),
          refl,
        )
compute_sound s (Some (denoted.Global i t)) (Some v) o (Some w) p q r = tt
compute_sound s (Some x) (Some v) o None p q r = tt
compute_sound s (Some x) None o w p q r = tt
compute_sound s None v o w p q r = tt

-- a field that is found is there, in the record of that number, with its type
abbrev pub IsFieldThere : Sight → ℕ → FieldAt → Type 0
IsFieldThere s r at = (field_type (environment s) at.field ≡ Some (type_of (names_of_records s.records) at.kind))
    × (at.field.of ≡ r)

field_in_there : (s : Sight) (i : ℕ) (r : Record) (j : ℕ) (o : Option Declaration) → slice_get s.records i ≡ Some r
    → slice_get r.fields j ≡ o
    → IfSome (field_with i j o) (IsFieldThere s i)
field_in_there s i r j None e g = tt
field_in_there s i r j (Some d) e g = (
  ap (λ x. type_in x j) (at_map (λ (q : Record). types_of (names_of_records s.records) q.fields) s.records i r e)
      ∙ at_map (λ (x : Declaration). type_of (names_of_records s.records) x.kind) r.fields j d g,
  refl,
)

field_at_there : (s : Sight) (i : ℕ) (r : Record) (o : Option ℕ) → slice_get s.records i ≡ Some r
    → IfSome (field_at i r.fields o) (IsFieldThere s i)
field_at_there s i r None e = tt
field_at_there s i r (Some j) e = field_in_there s i r j (slice_get r.fields j) e refl

record_there : (s : Sight) (i : ℕ) (f : List ℕ) (o : Option Record) → slice_get s.records i ≡ o
    → IfSome (field_in i f o) (IsFieldThere s i)
record_there s i f None e = tt
record_there s i f (Some r) e = field_at_there s i r (place f (names_of_declared r.fields)) e

field_there : (s : Sight) (f : List ℕ) (o : Option ℕ)
    → IfSome (field_of_number s.records f o) (IsFieldThere s (unwrap_or o 0))
field_there s f None = tt
field_there s f (Some i) = record_there s i f (slice_get s.records i) refl

-- a load from a base of that record
load_field : (s : Sight) (x y : Denoted) (r : ℕ) (o : Option FieldAt) → IsThere s x
    → type_at (environment s) (base_by y) ≡ Some (Refers r) → IfSome o (IsFieldThere s r)
    → IfOk (load_at x y (field_looked o)) (Fits (environment s) true)
load_field s x y r None p q h = tt
load_field s (denoted.Local i k) y r (Some f) p q (there, number) =
    well_typed_sound (environment s) true (same_kind k f.kind) _
    (λ e. (
      (
        type_of (names_of_records s.records) f.kind,
        q ∙ ap (λ n. Some (Refers n)) (sym number),
        there,
        p
            ∙ ap Some (same_types (names_of_records s.records) k f.kind e),
      ),
      refl,
    ))
load_field s (denoted.Global g t) y r (Some f) p q h = tt

load_kind : (s : Sight) (x y : Denoted) (f : List ℕ) (k : Kind) → IsThere s x
    → type_at (environment s) (base_by y) ≡ Some (type_of (names_of_records s.records) k)
    → IfOk (load_at x y (looked_in s k f)) (Fits (environment s) true)
load_kind s x y f kind.Int p q = tt
load_kind s x y f (kind.Record r) p q =
    load_field s x y (record_number (names_of_records s.records) r) (field_of s r f) p q
    (field_there s f (place r (names_of_records s.records)))

load_sound : (s : Sight) (x y : Option Denoted) (f : List ℕ) → IfSome x (IsThere s) → IfSome y (IsThere s)
    → IfOk (load_of x y (looked_of s y f)) (Fits (environment s) true)
load_sound s (Some x) (Some y) f p q = load_kind s x y f (kind_of y) p q
load_sound s (Some x) None f p q = tt
load_sound s None y f p q = tt

-- a store to a base of that record
store_field : (s : Sight) (y : Denoted) (r : ℕ) (o : Option FieldAt) (v : Given)
    → type_at (environment s) (base_by y) ≡ Some (Refers r) → IfSome o (IsFieldThere s r) → IsGiven s v
    → IfOk (store_at y (field_looked o) v) (Fits (environment s) true)
store_field s y r None v q h g = tt
store_field s y r (Some f) v q (there, number) g =
    well_typed_sound (environment s) true (accepts f.kind v) _
    (λ e. (
      (
        type_of (names_of_records s.records) f.kind,
        q ∙ ap (λ n. Some (Refers n)) (sym number),
        there,
        accepts_has s f.kind v g e,
      ),
      refl,
    ))

store_kind : (s : Sight) (y : Denoted) (f : List ℕ) (k : Kind) (v : Given)
    → type_at (environment s) (base_by y) ≡ Some (type_of (names_of_records s.records) k) → IsGiven s v
    → IfOk (store_at y (looked_in s k f) v) (Fits (environment s) true)
store_kind s y f kind.Int v q g = tt
store_kind s y f (kind.Record r) v q g =
    store_field s y (record_number (names_of_records s.records) r) (field_of s r f) v q
    (field_there s f (place r (names_of_records s.records))) g

store_sound : (s : Sight) (y : Option Denoted) (f : List ℕ) (v : Option Given) → IfSome y (IsThere s)
    → IfSome v (IsGiven s) → IfOk (store_of y (looked_of s y f) v) (Fits (environment s) true)
store_sound s (Some y) f (Some v) q g = store_kind s y f (kind_of y) v q g
store_sound s (Some y) f None q g = tt
store_sound s None f v q g = tt

-- the number of a name is that of a declaration
within : (b : Bool) (n len k : ℕ) → nat_lt n len ≡ b → cond b (Some n) None ≡ Some k → k < len
within true n len k e h = let same : n ≡ k = cc in omega (arith, ltb-true n len e, same)
within false n len k e h = absurd (cc)

pub place_within : (x : List ℕ) (names : List (List ℕ)) (k : ℕ) → place x names ≡ Some k → k < length names
place_within x names k h = within (nat_lt (prefix_len (λ y. not (pointwise nat_eq x y)) names) (length names)) _
    (length names) k refl h

new_sound : (s : Sight) (x : Option Denoted) (r : List ℕ) (n : Option ℕ) (site : ℕ)
    → place r (names_of_records s.records) ≡ n → IfSome x (IsThere s)
    → IfOk (new_of x r n site) (Fits (environment s) true)
new_sound s (Some (denoted.Local i k)) r (Some n) site e p =
    well_typed_sound (environment s) true (same_kind k (kind.Record r)) _
    (λ h. (
      (
        in_range,
        p ∙ (ap Some (same_types (names_of_records s.records) k (kind.Record r) h)
            ∙ ap (λ o. Some (Refers (unwrap_or o 0))) e),
      ),
      refl,
    ))
  where
    in_range : n < length (environment s).records
    in_range =
        omega (
          arith,
          place_within r (names_of_records s.records) n e,
          length-map s.records (λ (q : Record). q.name),
          length-map s.records (λ (q : Record). types_of (names_of_records s.records) q.fields),
        )
new_sound s (Some (denoted.Global g t)) r (Some n) site e p = tt
new_sound s (Some x) r None site e p = tt
new_sound s None r n site e p = tt

print_sound : (s : Sight) (v : Option Given) → IfSome v (IsGiven s) → IfOk (print_of v) (Fits (environment s) true)
print_sound s (Some v) q = well_typed_sound (environment s) true (accepts kind.Int v) _
    (λ e. (accepts_has s kind.Int v q e, refl))
print_sound s None q = tt

-- a statement by number is sound, and touches shared things exactly where it does by name
pub primitive_sound : (s : Sight) (site : ℕ) (p : leaf.Primitive)
    → IfOk (primitive_of s site p) (Fits (environment s) (shares (PrimitiveHead p)))
primitive_sound s site (primitive.Assign x v) =
    assign_sound s (base_of s x) (operand_of s v) (base_there s x) (operand_there s v)
primitive_sound s site (primitive.Compute x v o w) =
    compute_sound s (base_of s x) (operand_of s v) o (operand_of s w) (base_there s x) (operand_there s v)
    (operand_there s w)
primitive_sound s site (primitive.New x r) =
    new_sound s (base_of s x) r (place r (names_of_records s.records)) site refl (base_there s x)
primitive_sound s site (primitive.Load x y f) =
    load_sound s (base_of s x) (base_of s y) f (base_there s x) (base_there s y)
primitive_sound s site (primitive.Store y f v) =
    store_sound s (base_of s y) f (operand_of s v) (base_there s y) (operand_there s v)
primitive_sound s site (primitive.Print v) = print_sound s (operand_of s v) (operand_there s v)

well_typed_test_sound : (e : Environment) (b : Bool) (c : Condition) → (b ≡ true → IsSoundCondition e c)
    → IfOk (well_typed_test b c) (IsSoundCondition e)
well_typed_test_sound e true c h = h refl
well_typed_test_sound e false c h = tt

-- two operands of which either may be set to the other have one type
of_one_kind_have : (s : Sight) (v w : Given) → IsGiven s v → IsGiven s w → of_one_kind v w ≡ true
    → (t : ValueType) × HasType (environment s) (value_by v) t × HasType (environment s) (value_by w) t
of_one_kind_have s (given.Number n) w p q e = (Int, tt, accepts_has s kind.Int w q e)
of_one_kind_have s given.Null (given.Number n) p q e = absurd (true≢false (sym e))
of_one_kind_have s given.Null given.Null p q e = (Refers 0, tt, tt)
of_one_kind_have s given.Null (given.Base d) p q e = by (kind_of d) q e
  where
    by : (k : Kind) → type_at (environment s) (base_by d) ≡ Some (type_of (names_of_records s.records) k)
        → is_reference k ≡ true
        → (t : ValueType) × HasType (environment s) (value_by given.Null) t × HasType (environment s) (value_at d) t
    by kind.Int h g = absurd (true≢false (sym g))
    by (kind.Record r) h g = (Refers (record_number (names_of_records s.records) r), tt, denoted_has s d _ h)
of_one_kind_have s (given.Base d) w p q e =
    (type_of (names_of_records s.records) (kind_of d), denoted_has s d _ p, accepts_has s (kind_of d) w q e)

integers_have : (s : Sight) (v w : Given) → IsGiven s v → IsGiven s w
    → (accepts kind.Int v && accepts kind.Int w) ≡ true
    → HasType (environment s) (value_by v) Int × HasType (environment s) (value_by w) Int
integers_have s v w p q e = let h = and_parts (accepts kind.Int v) (accepts kind.Int w) e in
    (accepts_has s kind.Int v p h.0, accepts_has s kind.Int w q h.1)

comparable_have : (s : Sight) (c : Comparison) (v w : Given) → IsGiven s v → IsGiven s w → comparable c v w ≡ true
    → AreComparable (environment s) c (value_by v) (value_by w)
comparable_have s c v w p q e = by (compares_integers c) e
  where
    by : (integers : Bool) → cond integers (accepts kind.Int v && accepts kind.Int w) (of_one_kind v w) ≡ true
        → AreAlike integers (environment s) (value_by v) (value_by w)
    by true h = integers_have s v w p q h
    by false h = of_one_kind_have s v w p q h

condition_sound : (s : Sight) (v : Option Given) (c : Comparison) (w : Option Given) → IfSome v (IsGiven s)
    → IfSome w (IsGiven s)
    → IfOk (compared_of v c w) (IsSoundCondition (environment s))
condition_sound s (Some v) c (Some w) p q =
    well_typed_test_sound (environment s) (comparable c v w) _ (comparable_have s c v w p q)
condition_sound s (Some v) c None p q = tt
condition_sound s None c w p q = tt

-- a test by number is sound
pub test_sound : (s : Sight) (t : Test) → IfOk (test_of s t) (IsSoundCondition (environment s))
test_sound s t = condition_sound s (operand_of s t.left) t.comparison (operand_of s t.right) (operand_there s t.left)
    (operand_there s t.right)

-- an action that touches shared things only in a section stands right
stands : (e : Environment) (b inside : Bool) (a : Action) → Fits e b a → ((b ≡ true) × (inside ≡ true)) ⊎ (b ≡ false)
    → IsSound e inside (Do a Stop)
stands e b true a (sound, same) h = (sound, tt, tt)
stands e b false a (sound, same) (inr h) = (sound, same ∙ h, tt)
stands e b false a (sound, same) (inl (h, g)) = absurd (true≢false (sym g))
