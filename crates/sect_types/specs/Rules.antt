-- The rules.
use Rattle.std.specs.Prelude.{◌≡◌, ℕ, ◌+◌, Bool, true, false, not, ◌&&◌, ◌||◌, List, [], ◌∷◌, length, Option, Some}
use Rattle.std.specs.Prelude.{None, is_some, nat_le, nat_lt, nat_eq, slice_get}
use Rattle.sect_front.specs.{declared.tree.Test.{Test}, declared.tree.Operand.{Operand}, declared.tree.Kind.{Kind}}
use Rattle.sect_front.specs.{declared.tree.Comparison.{Comparison}, declared.tree.Record.{Record}}
use Rattle.sect_front.specs.{declared.tree.GlobalObject.{GlobalObject}, declared.tree.Declaration.{Declaration}}
use Rattle.sect_front.specs.{declared.tree.Procedure.{Procedure}, TreeView.{TreeView}, Limits.{most_depth}}
use Rattle.sect_types.specs.Limits.{most_records, most_fields, most_globals, most_threads, most_locals, most_statements}
use Rattle.sect_types.specs.Limits.{most_sites, most_sections, most_procedures, most_calls}
use Rattle.sect_types.specs.declared.rules.rule.Rule.{Rule}
use Rattle.sect_types.specs.declared.rules.rule.Rule.TheVariants.{Unknown, Twice, WrongType, SharedOutside, Nested}
use Rattle.sect_types.specs.declared.rules.rule.Rule.TheVariants.{TooMany, Recursion, Arguments}
use Rattle.sect_types.specs.declared.rules.place.Place.{Place}
use Rattle.sect_types.specs.declared.rules.place.Place.TheVariants.{InThread, InProcedure}
use Rattle.sect_types.specs.{declared.rules.resolve.Denoted.{Denoted}, declared.rules.resolve.Given.{Given}}
use Rattle.sect_types.specs.declared.rules.resolve.Looked.{Looked}
use Rattle.sect_types.specs.Sight.{Sight, has_name, names_of_records, names_of_globals, base_of, operand_of, looked_of}
use Rattle.sect_types.specs.{Kinds.{same_kind, accepts, comparable}, declared.counting.sums.Sums.{Sums}}
use Rattle.sect_types.specs.Sums.{sums, sums_at, number_of, Returns}
use Rattle.sect_types.specs.Items.{Head, PrimitiveHead, TestHead, AtomicHead, CallHead, is_inside, Item, ARecord}
use Rattle.sect_types.specs.Items.{AField, AGlobal, AProcedure, AThread, ALocal, AStatement}
use Rattle.sect_front.specs.declared.tree.Primitive as leaf
use Rattle.sect_front.specs.declared.tree.Primitive.TheVariants as primitive
use Rattle.sect_front.specs.declared.tree.Kind.TheVariants as kind
use Rattle.sect_types.specs.declared.rules.resolve.Denoted.TheVariants as denoted
use Rattle.sect_types.specs.declared.rules.resolve.Looked.TheVariants as looked

-- what all items see: the declarations, and what a call of each procedure comes to
pub record Declared : Type 0 where
  pub records : List Record
  pub globals : List GlobalObject
  pub procedures : List Procedure
  pub table : List Sums

abbrev pub declared_in : TreeView → Declared
declared_in t = record {
  records = t.records;
  globals = t.globals;
  procedures = t.procedures;
  table = sums t.procedures;
}

abbrev pub sight : List Record → List GlobalObject → List Declaration → Sight
sight rs gs ls = record { records = rs; globals = gs; locals = ls }

abbrev pub seen : Declared → List Declaration → Sight
seen d ls = sight d.records d.globals ls

-- what stands before an item: items; and of the expanded text statements, sites, sections and calls
pub record Counts : Type 0 where
  pub items : ℕ
  pub statements : ℕ
  pub sites : ℕ
  pub sections : ℕ
  pub calls : ℕ

-- what a call comes to
abbrev pub sums_of_call : Declared → List ℕ → Sums
sums_of_call d f = sums_at d.table (number_of d.procedures f)

abbrev pub plus_sums : Counts → Sums → Counts
plus_sums c s = record {
  items = c.items;
  statements = c.statements + s.statements;
  sites = c.sites + s.sites;
  sections = c.sections;
  calls = c.calls + s.calls;
}

abbrev pub after_item : Counts → Counts
after_item c = record c { items = c.items + 1 }

abbrev pub after_primitive : Counts → leaf.Primitive → Counts
after_primitive c (primitive.New x r) =
    record c { items = c.items + 1; statements = c.statements + 1; sites = c.sites + 1 }
after_primitive c _ = record c { items = c.items + 1; statements = c.statements + 1 }

abbrev pub after_head : Declared → Counts → Head → Counts
after_head d c (PrimitiveHead p) = after_primitive c p
after_head d c (TestHead t) = record c { items = c.items + 1; statements = c.statements + 1 }
after_head d c AtomicHead =
    record c { items = c.items + 1; statements = c.statements + 1; sections = c.sections + 1 }
after_head d c (CallHead f vs) = plus_sums (after_item c) (sums_of_call d f)

-- the first in a thread, the second in a procedure
abbrev pub by_place : {X : Type 0} → Place → X → X → X
by_place (InThread inside depth) x y = x
by_place (InProcedure p) x y = y

-- what stands before the next item. A procedure's statements count for nothing where they stand; a global is a site
abbrev pub after : Declared → Counts → Item → Counts
after d c (AStatement h ls at) = by_place at (after_head d c h) (after_item c)
after d c (AGlobal r x before) = record c { items = c.items + 1; sites = c.sites + 1 }
after d c _ = after_item c

-- 10: a name that nothing has
abbrev pub has_field : Looked → Bool
has_field looked.Missing = false
has_field looked.OfInt = true
has_field (looked.At f) = true

abbrev pub knows_primitive : Sight → leaf.Primitive → Bool
knows_primitive s (primitive.Assign x v) = is_some (base_of s x) && is_some (operand_of s v)
knows_primitive s (primitive.Compute x v o w) = is_some (base_of s x)
    && (is_some (operand_of s v) && is_some (operand_of s w))
knows_primitive s (primitive.New x r) = is_some (base_of s x) && has_name r (names_of_records s.records)
knows_primitive s (primitive.Load x y f) = is_some (base_of s x)
    && (is_some (base_of s y) && has_field (looked_of s (base_of s y) f))
knows_primitive s (primitive.Store y f v) = is_some (base_of s y)
    && (has_field (looked_of s (base_of s y) f) && is_some (operand_of s v))
knows_primitive s (primitive.Print v) = is_some (operand_of s v)

abbrev pub knows_kind : List (List ℕ) → Kind → Bool
knows_kind records kind.Int = true
knows_kind records (kind.Record r) = has_name r records

abbrev pub knows_test : Sight → Test → Bool
knows_test s t = is_some (operand_of s t.left) && is_some (operand_of s t.right)

abbrev pub knows_operands : Sight → List Operand → Bool
knows_operands s [] = true
knows_operands s (v ∷ vs) = is_some (operand_of s v) && knows_operands s vs

abbrev pub knows_head : Declared → Sight → Head → Bool
knows_head d s (PrimitiveHead p) = knows_primitive s p
knows_head d s (TestHead t) = knows_test s t
knows_head d s AtomicHead = true
knows_head d s (CallHead f vs) = is_some (number_of d.procedures f) && knows_operands s vs

abbrev pub unknown : Declared → Item → Bool
unknown d (AField k x before) = not (knows_kind (names_of_records d.records) k)
unknown d (AGlobal r x before) = not (has_name r (names_of_records d.records))
unknown d (ALocal k x before) = not (knows_kind (names_of_records d.records) k)
unknown d (AStatement h ls at) = not (knows_head d (seen d ls) h)
unknown d _ = false

-- 11: a name that an earlier declaration has
abbrev pub twice : Declared → Item → Bool
twice d (ARecord x before) = has_name x before
twice d (AField k x before) = has_name x before
twice d (AGlobal r x before) = has_name x before
twice d (AProcedure x before) = has_name x before
twice d (AThread x before) = has_name x before
twice d (ALocal k x before) = has_name x before || has_name x (names_of_globals d.globals)
twice d (AStatement h ls at) = false

-- 12: sides that differ in type
abbrev pub local_accepts : Option Denoted → Option Given → Bool
local_accepts (Some (denoted.Local i k)) (Some v) = accepts k v
local_accepts _ _ = false

abbrev pub local_is : Option Denoted → Kind → Bool
local_is (Some (denoted.Local i k)) l = same_kind k l
local_is _ l = false

abbrev pub local_gets : Option Denoted → Looked → Bool
local_gets x (looked.At f) = local_is x f.kind
local_gets x _ = false

abbrev pub field_accepts : Looked → Option Given → Bool
field_accepts (looked.At f) (Some v) = accepts f.kind v
field_accepts _ _ = false

abbrev pub is_int : Option Given → Bool
is_int None = false
is_int (Some v) = accepts kind.Int v

abbrev pub primitive_agrees : Sight → leaf.Primitive → Bool
primitive_agrees s (primitive.Assign x v) = local_accepts (base_of s x) (operand_of s v)
primitive_agrees s (primitive.Compute x v o w) = local_is (base_of s x) kind.Int && is_int (operand_of s v)
    && is_int (operand_of s w)
primitive_agrees s (primitive.New x r) = local_is (base_of s x) (kind.Record r)
primitive_agrees s (primitive.Load x y f) = local_gets (base_of s x) (looked_of s (base_of s y) f)
primitive_agrees s (primitive.Store y f v) = field_accepts (looked_of s (base_of s y) f) (operand_of s v)
primitive_agrees s (primitive.Print v) = is_int (operand_of s v)

abbrev pub compares : Comparison → Option Given → Option Given → Bool
compares c (Some v) (Some w) = comparable c v w
compares c _ _ = false

abbrev pub test_agrees : Sight → Test → Bool
test_agrees s t = compares t.comparison (operand_of s t.left) (operand_of s t.right)

-- the procedure that is called
abbrev pub procedure_at : List Procedure → Option ℕ → Option Procedure
procedure_at ps None = None
procedure_at ps (Some q) = slice_get ps q

abbrev pub procedure_of : List Procedure → List ℕ → Option Procedure
procedure_of ps f = procedure_at ps (number_of ps f)

-- as many arguments as parameters
abbrev pub as_many : Option Procedure → List Operand → Bool
as_many None vs = true
as_many (Some p) vs = nat_eq (length p.parameters) (length vs)

-- at a call, where the numbers agree; types are compared as they are written
abbrev pub kind_accepts : Kind → Option Given → Bool
kind_accepts k None = false
kind_accepts k (Some v) = accepts k v

abbrev pub all_accept : Sight → List Declaration → List Operand → Bool
all_accept s (d ∷ ds) (v ∷ vs) = kind_accepts d.kind (operand_of s v) && all_accept s ds vs
all_accept s _ _ = true

abbrev pub call_agrees : Sight → Option Procedure → List Operand → Bool
call_agrees s None vs = true
call_agrees s (Some p) vs = not (as_many (Some p) vs) || all_accept s p.parameters vs

abbrev pub head_agrees : Declared → Sight → Head → Bool
head_agrees d s (PrimitiveHead p) = primitive_agrees s p
head_agrees d s (TestHead t) = test_agrees s t
head_agrees d s AtomicHead = true
head_agrees d s (CallHead f vs) = call_agrees s (procedure_of d.procedures f) vs

abbrev pub mistyped : Declared → Item → Bool
mistyped d (AStatement h ls at) = knows_head d (seen d ls) h && not (head_agrees d (seen d ls) h)
mistyped d _ = false

-- 13: shared outside a section and outside a procedure
abbrev pub shares : Head → Bool
shares (PrimitiveHead (primitive.New x r)) = true
shares (PrimitiveHead (primitive.Load x y f)) = true
shares (PrimitiveHead (primitive.Store y f v)) = true
shares (PrimitiveHead (primitive.Print v)) = true
shares (CallHead f vs) = true
shares _ = false

abbrev pub outside : Item → Bool
outside (AStatement h ls at) = shares h && not (is_inside at)
outside _ = false

-- 14: a section in a section or in a procedure
abbrev pub is_atomic : Head → Bool
is_atomic AtomicHead = true
is_atomic _ = false

abbrev pub nested : Item → Bool
nested (AStatement h ls at) = is_atomic h && is_inside at
nested _ = false

-- 15: too many, of which the statements of procedures are none where they stand. At a call its expansion is counted
abbrev pub depth_at : Place → ℕ
depth_at (InThread inside depth) = depth
depth_at (InProcedure p) = 0

abbrev pub passes_by : Counts → ℕ → Sums → Bool
passes_by c depth s =
    nat_lt most_statements (c.statements + s.statements) || (nat_lt most_sites (c.sites + s.sites)
    || (nat_lt most_calls (c.calls + s.calls) || nat_lt most_depth (depth + s.deep)))

-- a call that breaks 10, 13 or 17 has no expansion
abbrev pub expands : Declared → Sight → Bool → List ℕ → List Operand → Bool
expands d s inside f vs = knows_head d s (CallHead f vs) && (inside && as_many (procedure_of d.procedures f) vs)

abbrev pub passes_limit : Declared → Counts → Sight → Place → Head → Bool
passes_limit d c s at (PrimitiveHead (primitive.New x r)) =
    nat_le most_statements c.statements || nat_le most_sites c.sites
passes_limit d c s at AtomicHead = nat_le most_statements c.statements || nat_le most_sections c.sections
passes_limit d c s at (CallHead f vs) =
    expands d s (is_inside at) f vs && passes_by c (depth_at at) (sums_of_call d f)
passes_limit d c s at _ = nat_le most_statements c.statements

abbrev pub too_many : Declared → Counts → Item → Bool
too_many d c (ARecord x before) = nat_le most_records (length before)
too_many d c (AField k x before) = nat_le most_fields (length before)
too_many d c (AGlobal r x before) = nat_le most_globals (length before)
too_many d c (AProcedure x before) = nat_le most_procedures (length before)
too_many d c (AThread x before) = nat_le most_threads (length before)
too_many d c (ALocal k x before) = nat_le most_locals (length before)
too_many d c (AStatement h ls at) = by_place at (passes_limit d c (seen d ls) at h) false

-- 16: a call in a procedure of one that is it or reaches it by calls
abbrev pub ReturnsTo : List Procedure → Place → Option ℕ → Type 0
ReturnsTo ps (InProcedure p) (Some q) = Returns ps p q
ReturnsTo ps _ _ = ⊥

abbrev pub IsRecursive : Declared → Item → Type 0
IsRecursive d (AStatement (CallHead f vs) ls at) = ReturnsTo d.procedures at (number_of d.procedures f)
IsRecursive d _ = ⊥

-- 17: another number of arguments than of parameters
abbrev pub miscounted : Declared → Item → Bool
miscounted d (AStatement (CallHead f vs) ls at) = not (as_many (procedure_of d.procedures f) vs)
miscounted d _ = false

-- the item breaks the rule
abbrev pub BreaksRule : Declared → Counts → Item → Rule → Type 0
BreaksRule d c item Unknown = unknown d item ≡ true
BreaksRule d c item Twice = twice d item ≡ true
BreaksRule d c item WrongType = mistyped d item ≡ true
BreaksRule d c item SharedOutside = outside item ≡ true
BreaksRule d c item Nested = nested item ≡ true
BreaksRule d c item TooMany = too_many d c item ≡ true
BreaksRule d c item Recursion = IsRecursive d item
BreaksRule d c item Arguments = miscounted d item ≡ true
