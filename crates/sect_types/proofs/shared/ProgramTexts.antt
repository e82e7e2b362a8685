-- Worked examples by numbers, on which definitions are tested.
use Rattle.std.specs.Prelude.{ℕ, List, [], ◌∷◌}
use Rattle.sect_types.specs.declared.declarations.types.ValueType.{ValueType}
use Rattle.sect_types.specs.declared.declarations.types.ValueType.TheVariants.{Int, Refers}
use Rattle.sect_types.specs.declared.expansion.action.Field.{Field}
use Rattle.sect_types.specs.declared.expansion.action.Action.TheVariants.{Assign, Compute, New, Load, Store, Print}
use Rattle.sect_types.specs.{Statements.{TextView, Stop, Do, Loop, Section}, Programs.{ProgramView}}
use Rattle.sect_front.specs.declared.tree.Operator.TheVariants as operator
use Rattle.sect_front.specs.declared.tree.Comparison.TheVariants as comparison
use Rattle.sect_types.specs.declared.expansion.action.Base.TheVariants as base
use Rattle.sect_types.specs.declared.expansion.action.Value.TheVariants as value

-- a program by its records, globals, locals and texts
abbrev pub numbered : List (List ValueType) → List ℕ → List (List ValueType) → List TextView → ProgramView
numbered records globals locals texts = record {
  source = record { records = []; globals = []; procedures = []; threads = [] };
  records = records;
  globals = globals;
  locals = locals;
  texts = texts;
  lockings = [];
}

-- the field of that number of that record
abbrev pub field : ℕ → ℕ → Field
field r n = record { of = r; number = n }

-- the field `bal` of the first record
abbrev pub bal : Field
bal = field 0 0

-- t = a.bal; t = t + 1; a.bal = t
abbrev pub bump : TextView
bump = Do (Load 0 (base.Global 0) bal)
    (Do (Compute 0 (value.Local 0) operator.Add (value.Number 1)) (Do (Store (base.Global 0) bal (value.Local 0)) Stop))

-- two threads that add 1 to one balance
abbrev pub two_bumps : ProgramView
two_bumps = numbered ((Int ∷ []) ∷ []) (0 ∷ []) ((Int ∷ []) ∷ (Int ∷ []) ∷ [])
    (Section 0 bump Stop ∷ Section 1 bump Stop ∷ [])

-- record Node { int val; Node next; }
abbrev pub node : List ValueType
node = Int ∷ Refers 0 ∷ []

-- the field `val` of the first record
abbrev pub val : Field
val = field 0 0

-- the field `link` of the first record
abbrev pub link : Field
link = field 0 1

-- sums a list from its head, and pushes 5 behind the head; p, v, s are the locals 0, 1, 2 of the first thread, n, p, v
-- those of the second
abbrev pub sum_and_push : ProgramView
sum_and_push = numbered (node ∷ []) (0 ∷ []) ((Refers 0 ∷ Int ∷ Int ∷ []) ∷ (Refers 0 ∷ Refers 0 ∷ Int ∷ []) ∷ [])
    (Section 0
    (Do (Load 0 (base.Global 0) link)
    (Loop (record { left = value.Local 0; comparison = comparison.NotEqual; right = value.Null })
    (Do (Load 1 (base.Local 0) val)
    (Do (Compute 2 (value.Local 2) operator.Add (value.Local 1)) (Do (Load 0 (base.Local 0) link) Stop)))
    (Do (Print (value.Local 2)) Stop)))
    Stop
    ∷ Do (Assign 2 (value.Number 5))
    (Section 1
    (Do (New 0 0 1) (Do (Store (base.Local 0) val (value.Local 2)) (Do (Load 1 (base.Global 0) link)
    (Do (Store (base.Local 0) link (value.Local 1)) (Do (Store (base.Global 0) link (value.Local 0)) Stop)))))
    Stop)
    ∷ [])

-- writes b, then loads through null; the other thread prints b
abbrev pub null_after_write : ProgramView
null_after_write = numbered (node ∷ []) (0 ∷ 0 ∷ []) ((Refers 0 ∷ Int ∷ []) ∷ (Int ∷ []) ∷ [])
    (Section 0 (Do (Store (base.Global 1) val (value.Number 4))
    (Do (Load 0 (base.Global 0) link) (Do (Load 1 (base.Local 0) val) Stop))) Stop
    ∷ Section 1 (Do (Load 0 (base.Global 1) val) (Do (Print (value.Local 0)) Stop)) Stop
    ∷ [])

-- x = a; y = a; then v = x.val; y.val = 3
abbrev pub one_object_twice : ProgramView
one_object_twice = numbered ((Int ∷ []) ∷ []) (0 ∷ []) ((Refers 0 ∷ Refers 0 ∷ Int ∷ []) ∷ [])
    (Do (Assign 0 (value.Global 0)) (Do (Assign 1 (value.Global 0))
    (Section 0 (Do (Load 2 (base.Local 0) (field 0 0)) (Do (Store (base.Local 1) (field 0 0) (value.Number 3)) Stop))
    Stop))
    ∷ [])

-- reads the object behind head; the other thread puts two there
abbrev pub read_behind : ProgramView
read_behind = numbered (node ∷ []) (0 ∷ 0 ∷ []) ((Refers 0 ∷ Int ∷ []) ∷ [] ∷ [])
    (Section 0 (Do (Load 0 (base.Global 0) link) (Do (Load 1 (base.Local 0) val) (Do (Print (value.Local 1)) Stop)))
    Stop
    ∷ Section 1 (Do (Store (base.Global 0) link (value.Global 1))
    (Do (Store (base.Global 1) val (value.Number 7)) Stop)) Stop
    ∷ [])

-- y comes behind head and is written; the other thread puts b there, and then a again
abbrev pub turned_back : ProgramView
turned_back =
    numbered (node ∷ []) (0 ∷ 0 ∷ 0 ∷ []) ((Refers 0 ∷ Refers 0 ∷ Int ∷ []) ∷ [] ∷ [])
    (Do (Assign 0 (value.Global 1))
    (Section 0 (Do (Load 2 (base.Local 0) val)
    (Do (Load 1 (base.Global 0) link) (Do (Store (base.Local 1) val (value.Local 2)) Stop))) Stop)
    ∷ Section 1 (Do (Store (base.Global 0) link (value.Global 2)) Stop)
    (Section 2 (Do (Store (base.Global 0) link (value.Global 1)) Stop) Stop)
    ∷ [])
