-- What a statement or a test does. `sect_store::act` cites it, and `sect_serial::serial` by way of whole sections.
use Rattle.std.specs.Prelude.{ℕ, zero, suc, ◌+◌, ◌^◌, Bool, true, false, not, List, [], ◌∷◌, ◌++◌, map, Option, Some}
use Rattle.std.specs.Prelude.{None, slice_get, slice_index_or, nat_lt, ℤ, pos, negsuc, ◌+ℤ◌, ◌-ℤ◌, ◌*ℤ◌, int_lt, int_le}
use Rattle.std.specs.Prelude.{if◌then◌else◌}
use Rattle.sect_front.specs.{declared.tree.Comparison.{Comparison}, declared.tree.Operator.{Operator}}
use Rattle.sect_types.specs.{declared.declarations.types.ValueType.{ValueType}, declared.expansion.action.Base.{Base}}
use Rattle.sect_types.specs.{declared.expansion.action.Value.{Value}, declared.expansion.action.Condition.{Condition}}
use Rattle.sect_types.specs.declared.expansion.action.Action.{Action}
use Rattle.sect_types.specs.{Statements.{TextView, Stop, Do, Choose, Loop, Section, joined}, Programs.{ProgramView}}
use Rattle.sect_types.specs.declared.meaning.store.ObjectName.{ObjectName}
use Rattle.sect_types.specs.declared.meaning.store.ObjectName.TheVariants.{Global, Made}
use Rattle.sect_types.specs.declared.meaning.store.Datum.{Datum}
use Rattle.sect_types.specs.declared.meaning.store.Datum.TheVariants.{Number, Null, Refers}
use Rattle.sect_types.specs.declared.meaning.store.Fault.{Fault}
use Rattle.sect_types.specs.Store.{ObjectView, StoreView, same_datum, object_at, write, add}
use Rattle.sect_lemmas.specs.Lists.{put_at}
use Rattle.sect_front.specs.declared.tree.Comparison.TheVariants as comparison
use Rattle.sect_front.specs.declared.tree.Operator.TheVariants as operator
use Rattle.sect_types.specs.declared.declarations.types.ValueType.TheVariants as type
use Rattle.sect_types.specs.declared.expansion.action.Base.TheVariants as base
use Rattle.sect_types.specs.declared.expansion.action.Value.TheVariants as value
use Rattle.sect_types.specs.declared.expansion.action.Action.TheVariants as action
use Rattle.sect_types.specs.declared.meaning.store.Fault.TheVariants as fault

-- what a thread works with: its locals, the units of fuel left, how many objects it has made, and what the section that
-- runs has printed
pub record WorkView : Type 0 where
  pub locals : List Datum
  pub fuel : ℕ
  pub made : ℕ
  pub printed : List ℤ

abbrev pub datum_or_null : Option Datum → Datum
datum_or_null None = Null
datum_or_null (Some d) = d

abbrev pub local_datum : List Datum → ℕ → Datum
local_datum locals x = datum_or_null (slice_get locals x)

abbrev pub base_datum : List Datum → Base → Datum
base_datum locals (base.Local x) = local_datum locals x
base_datum locals (base.Global g) = Refers (Global g)

abbrev pub value_datum : List Datum → Value → Datum
value_datum locals (value.Number n) = Number (pos n)
value_datum locals value.Null = Null
value_datum locals (value.Local x) = local_datum locals x
value_datum locals (value.Global g) = Refers (Global g)

-- sound statements ask this of numbers alone
abbrev pub integer_of : Datum → ℤ
integer_of (Number n) = n
integer_of Null = pos 0
integer_of (Refers o) = pos 0

abbrev pub result_of : Operator → ℤ → ℤ → ℤ
result_of operator.Add n m = n +ℤ m
result_of operator.Subtract n m = n -ℤ m
result_of operator.Multiply n m = n *ℤ m

-- the number is an `i64`
abbrev pub fits : ℤ → Bool
fits (pos n) = nat_lt n (2 ^ 63)
fits (negsuc n) = nat_lt n (2 ^ 63)

abbrev pub compares : Comparison → Datum → Datum → Bool
compares comparison.Equal d e = same_datum d e
compares comparison.NotEqual d e = not (same_datum d e)
compares comparison.Less d e = int_lt (integer_of d) (integer_of e)
compares comparison.LessOrEqual d e = int_le (integer_of d) (integer_of e)

abbrev pub is_true : List Datum → Condition → Bool
is_true locals c = compares c.comparison (value_datum locals c.left) (value_datum locals c.right)

-- the object that a datum refers to
abbrev pub name_in : Datum → Option ObjectName
name_in (Number n) = None
name_in Null = None
name_in (Refers o) = Some o

-- what a fresh field of that type holds, and a local at the start
abbrev pub first_datum : ValueType → Datum
first_datum type.Int = Number (pos 0)
first_datum (type.Refers r) = Null

abbrev pub fresh : ℕ → List ValueType → ObjectView
fresh site types = record { site = site; fields = map first_datum types }

-- what a step does to the store: nothing, a write to a field, or one object more
pub data Change : Type 0 where
  Unchanged : Change
  Written : ObjectName → ℕ → Datum → Change
  Added : ObjectView → Change

-- the store after a change by thread t
abbrev pub after_change : ℕ → StoreView → Change → StoreView
after_change t s Unchanged = s
after_change t s (Written o f d) = write s o f d
after_change t s (Added o) = add s t o

-- what a statement comes to
pub data Came : Type 0 where
  Went : WorkView → Change → Came
  Fell : Fault → WorkView → Came

abbrev pub assigned : ℕ → Datum → WorkView → WorkView
assigned x d w = record w { locals = put_at x d w.locals }

abbrev pub computed : ℕ → ℤ → WorkView → Came
computed x n w = if fits n then Went (assigned x (Number n) w) Unchanged else Fell fault.Overflow w

abbrev pub loaded : ℕ → ℕ → Option ObjectView → WorkView → Came
loaded x f None w = Fell fault.Null w
loaded x f (Some o) w = Went (assigned x (datum_or_null (slice_get o.fields f)) w) Unchanged

abbrev pub stored : ℕ → Datum → Option ObjectName → WorkView → Came
stored f d None w = Fell fault.Null w
stored f d (Some o) w = Went w (Written o f d)

-- what a statement of thread t does, once its unit of fuel is paid; `found` is the object that it looks into
abbrev pub done : ProgramView → ℕ → Action → Option ObjectView → WorkView → Came
done p t (action.Assign x v) found w = Went (assigned x (value_datum w.locals v) w) Unchanged
done p t (action.Compute x v o u) found w =
    computed x (result_of o (integer_of (value_datum w.locals v)) (integer_of (value_datum w.locals u))) w
done p t (action.New x r site) found w =
    Went (assigned x (Refers (Made t w.made)) (record w { made = w.made + 1 }))
    (Added (fresh site (slice_index_or p.records r [])))
done p t (action.Load x b f) found w = loaded x f.number found w
done p t (action.Store b f v) found w = stored f.number (value_datum w.locals v) (name_in (base_datum w.locals b)) w
done p t (action.Print v) found w =
    Went (record w { printed = w.printed ++ integer_of (value_datum w.locals v) ∷ [] }) Unchanged

-- where no unit of fuel is left, the statement isn't done, whatever else holds
abbrev pub paid : ℕ → WorkView → (WorkView → Came) → Came
paid zero w go = Fell fault.Fuel w
paid (suc n) w go = go (record w { fuel = n })

abbrev pub one : ProgramView → ℕ → Action → Option ObjectView → WorkView → Came
one p t a found w = paid w.fuel w (done p t a found)

-- the object that a statement looks into
abbrev pub looked : Action → List Datum → Option ObjectName
looked (action.Assign x v) locals = None
looked (action.Compute x v o u) locals = None
looked (action.New x r site) locals = None
looked (action.Load x b f) locals = name_in (base_datum locals b)
looked (action.Store b f v) locals = name_in (base_datum locals b)
looked (action.Print v) locals = None

abbrev pub found_at : StoreView → Option ObjectName → Option ObjectView
found_at s None = None
found_at s (Some o) = object_at s o

-- what the next statement or test comes to: it goes on with what is still to run, or ends by a fault
pub data Next : Type 0 where
  On : TextView → WorkView → Change → Next
  Off : Fault → WorkView → Next

abbrev pub going : TextView → Came → Next
going rest (Went w c) = On rest w c
going rest (Fell why w) = Off why w

abbrev pub taken : ℕ → Condition → TextView → TextView → WorkView → Next
taken zero c then_rest else_rest w = Off fault.Fuel w
taken (suc n) c then_rest else_rest w =
    On (if is_true w.locals c then then_rest else else_rest) (record w { fuel = n }) Unchanged

-- the next step of these statements of thread t; a loop whose test holds runs its body and then itself. Neither the end
-- nor a section is a step
abbrev pub next : ProgramView → ℕ → TextView → Option ObjectView → WorkView → Next
next p t Stop found w = On Stop w Unchanged
next p t (Do a rest) found w = going rest (one p t a found w)
next p t (Choose c yes_part no_part rest) found w = taken w.fuel c (joined yes_part rest) (joined no_part rest) w
next p t (Loop c part rest) found w = taken w.fuel c (joined part (Loop c part rest)) rest w
next p t (Section i part rest) found w = On rest w Unchanged

-- the object that the next step looks into
abbrev pub looks : TextView → WorkView → Option ObjectName
looks Stop w = None
looks (Do a rest) w = looked a w.locals
looks (Choose c yes_part no_part rest) w = None
looks (Loop c part rest) w = None
looks (Section i part rest) w = None

-- there is a next statement or test
abbrev pub begins_step : TextView → Bool
begins_step Stop = false
begins_step (Do a rest) = true
begins_step (Choose c yes_part no_part rest) = true
begins_step (Loop c part rest) = true
begins_step (Section i part rest) = false
