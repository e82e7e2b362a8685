-- Statements that agree with the declarations by number.
use Rattle.std.specs.Prelude.{◌≡◌, ◌<◌, ℕ, length, ⊤, Bool, true, false, List, [], ◌∷◌, Option, Some, None, slice_get}
use Rattle.sect_front.specs.declared.tree.Comparison.{Comparison}
use Rattle.sect_types.specs.declared.declarations.types.ValueType.{ValueType}
use Rattle.sect_types.specs.declared.declarations.types.ValueType.TheVariants.{Int, Refers}
use Rattle.sect_types.specs.{declared.expansion.action.Base.{Base}, declared.expansion.action.Value.{Value}}
use Rattle.sect_types.specs.{declared.expansion.action.Field.{Field}, declared.expansion.action.Condition.{Condition}}
use Rattle.sect_types.specs.{declared.expansion.action.Action.{Action}, Kinds.{compares_integers}}
use Rattle.sect_types.specs.{Statements.{TextView, Stop, Do, Choose, Loop, Section}, Environments.{Environment}}
use Rattle.sect_types.specs.declared.expansion.action.Base.TheVariants as base
use Rattle.sect_types.specs.declared.expansion.action.Value.TheVariants as value
use Rattle.sect_types.specs.declared.expansion.action.Action.TheVariants as action

abbrev pub reference_to : Option ℕ → Option ValueType
reference_to None = None
reference_to (Some r) = Some (Refers r)

-- the type of a base
abbrev pub type_at : Environment → Base → Option ValueType
type_at e (base.Local i) = slice_get e.locals i
type_at e (base.Global g) = reference_to (slice_get e.globals g)

abbrev pub type_in : Option (List ValueType) → ℕ → Option ValueType
type_in None f = None
type_in (Some ts) f = slice_get ts f

-- the type of a field
abbrev pub field_type : Environment → Field → Option ValueType
field_type e f = type_in (slice_get e.records f.of) f.number

-- the value has the type; `null` has every reference type
abbrev pub HasType : Environment → Value → ValueType → Type 0
HasType e (value.Number n) Int = ⊤
HasType e (value.Number n) (Refers r) = ⊥
HasType e value.Null Int = ⊥
HasType e value.Null (Refers r) = ⊤
HasType e (value.Local i) t = slice_get e.locals i ≡ Some t
HasType e (value.Global g) t = reference_to (slice_get e.globals g) ≡ Some t

-- what the statement names is there, and the types agree
abbrev pub IsSoundAction : Environment → Action → Type 0
IsSoundAction e (action.Assign x v) = (t : ValueType) × (slice_get e.locals x ≡ Some t) × HasType e v t
IsSoundAction e (action.Compute x v o w) = (slice_get e.locals x ≡ Some Int) × HasType e v Int × HasType e w Int
IsSoundAction e (action.New x r site) = (r < length e.records) × (slice_get e.locals x ≡ Some (Refers r))
IsSoundAction e (action.Load x b f) =
    (t : ValueType) × (type_at e b ≡ Some (Refers f.of)) × (field_type e f ≡ Some t) × (slice_get e.locals x ≡ Some t)
IsSoundAction e (action.Store b f v) =
    (t : ValueType) × (type_at e b ≡ Some (Refers f.of)) × (field_type e f ≡ Some t) × HasType e v t
IsSoundAction e (action.Print v) = HasType e v Int

-- two integers, or two values of one type
abbrev pub AreAlike : Bool → Environment → Value → Value → Type 0
AreAlike true e v w = HasType e v Int × HasType e w Int
AreAlike false e v w = (t : ValueType) × HasType e v t × HasType e w t

-- `<` and `<=` compare two integers, `==` and `!=` two values of one type
abbrev pub AreComparable : Environment → Comparison → Value → Value → Type 0
AreComparable e c v w = AreAlike (compares_integers c) e v w

abbrev pub IsSoundCondition : Environment → Condition → Type 0
IsSoundCondition e c = AreComparable e c.comparison c.left c.right

-- it touches what threads share
abbrev pub is_shared : Action → Bool
is_shared (action.Assign x v) = false
is_shared (action.Compute x v o w) = false
is_shared (action.New x r site) = true
is_shared (action.Load x b f) = true
is_shared (action.Store b f v) = true
is_shared (action.Print v) = true

-- outside a section nothing shared is touched
abbrev pub StandsRight : Bool → Action → Type 0
StandsRight true a = ⊤
StandsRight false a = is_shared a ≡ false

-- each statement is sound and stands right, and no section stands in a section; `inside` says that the statements
-- themselves stand in one
abbrev pub IsSound : Environment → Bool → TextView → Type 0
IsSound e inside Stop = ⊤
IsSound e inside (Do a k) = IsSoundAction e a × StandsRight inside a × IsSound e inside k
IsSound e inside (Choose c p q k) = IsSoundCondition e c × IsSound e inside p × IsSound e inside q × IsSound e inside k
IsSound e inside (Loop c p k) = IsSoundCondition e c × IsSound e inside p × IsSound e inside k
IsSound e inside (Section i p k) = (inside ≡ false) × IsSound e true p × IsSound e inside k

-- each text is sound for the locals of its thread
abbrev pub AreSound : List (List ValueType) → List ℕ → List (List ValueType) → List TextView → Type 0
AreSound records globals [] [] = ⊤
AreSound records globals (ls ∷ more) (p ∷ ps) =
    IsSound (record { records = records; globals = globals; locals = ls }) false p × AreSound records globals more ps
AreSound records globals _ _ = ⊥
