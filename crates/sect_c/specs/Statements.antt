-- Statements and tests in C.
use Rattle.std.specs.{Prelude.{ℕ, Bool, true, false, ◌&&◌, List, [], ◌++◌, if◌then◌else◌, nat_eq, slice_index_or}}
use Rattle.std.specs.{Prelude.{codes}, List.{list_any}, Fmt.{decimal}}
use Rattle.sect_front.specs.{TreeView.{TreeView}, declared.tree.Operator.{Operator}}
use Rattle.sect_front.specs.declared.tree.Operator.TheVariants.{Add, Subtract, Multiply}
use Rattle.sect_front.specs.declared.tree.Comparison.{Comparison}
use Rattle.sect_front.specs.declared.tree.Comparison.TheVariants.{Equal, NotEqual, Less, LessOrEqual}
use Rattle.sect_types.specs.{Programs.{ProgramView}, declared.expansion.action.Field.{Field}}
use Rattle.sect_types.specs.{declared.expansion.action.Value.{Value}, declared.expansion.action.Base.{Base}}
use Rattle.sect_types.specs.{declared.expansion.action.Condition.{Condition}, declared.expansion.action.Action.{Action}}
use Rattle.sect_types.specs.declared.expansion.action.Action.TheVariants.{Assign, Compute, New, Load, Store, Print}
use Rattle.sect_types.specs.declared.expansion.action.Label.{Label}
use Rattle.sect_types.specs.declared.expansion.action.Label.TheVariants.{Act, Test, Section}
use Rattle.sect_types.specs.declared.declarations.types.ValueType.{ValueType}
use Rattle.sect_types.specs.declared.declarations.types.ValueType.TheVariants.{Int, Refers}
use Rattle.sect_graph.specs.{declared.flow.Node.{Node}, declared.flow.Successors.{Successors}}
use Rattle.sect_graph.specs.declared.flow.Successors.TheVariants.{Next, Branch}
use Rattle.sect_emit.specs.{declared.graphs.GraphOf.{GraphOf}, Labels.{label_text}}
use Rattle.sect_c.specs.{declared.context.Standing.{Standing}, declared.context.Member.{Member}}
use Rattle.sect_c.specs.Naming.{local_c, value_c, member_c, local_type}
use Rattle.sect_types.specs.declared.expansion.action.Value.TheVariants as value
use Rattle.sect_types.specs.declared.expansion.action.Base.TheVariants as base
use Rattle.sect_emit.specs.declared.graphs.GraphOf.TheVariants as graph

-- the label of a node
abbrev pub place_c : GraphOf → ℕ → List ℕ
place_c (graph.Thread u) n = codes "n" ++ decimal n
place_c (graph.Section i) n = codes "s" ++ decimal i ++ codes "_" ++ decimal n

abbrev pub jump_c : GraphOf → ℕ → List ℕ
jump_c g n = codes "goto " ++ place_c g n ++ codes ";"

-- the thread ends with a fault: control goes on at the exit of the graph
abbrev pub fault_c : Standing → List ℕ → List ℕ
fault_c s fault = codes " { end = " ++ fault ++ codes "; " ++ jump_c s.graph s.exit ++ codes " }\n"

-- the field is one of these, which may be read while others write them
abbrev pub is_looked : List Field → Field → Bool
is_looked fields f = list_any (λ (g : Field). nat_eq g.of f.of && nat_eq g.number f.number) fields

-- a local may be null
abbrev pub null_test_c : TreeView → Standing → Base → List ℕ
null_test_c t s (base.Global g) = []
null_test_c t s (base.Local x) =
    codes "  if (" ++ local_c t s.thread x ++ codes " == NULL)" ++ fault_c s (codes "SECT_NULL")

abbrev pub load_c : TreeView → List Field → Standing → Member → List ℕ
load_c t looked s m =
    if is_looked looked m.field then codes "SECT_GET(&" ++ member_c t s.thread m ++ codes ")" else
    member_c t s.thread m

abbrev pub store_c : TreeView → List Field → Standing → Member → Value → List ℕ
store_c t looked s m v =
    if is_looked looked m.field then
    codes "  SECT_PUT(&" ++ member_c t s.thread m ++ codes ", " ++ value_c t s.thread v ++ codes ");\n" else
    codes "  " ++ member_c t s.thread m ++ codes " = " ++ value_c t s.thread v ++ codes ";\n"

-- each tells whether the result is out of range
abbrev pub operation_c : Operator → List ℕ
operation_c Add = codes "sect_add"
operation_c Subtract = codes "sect_subtract"
operation_c Multiply = codes "sect_multiply"

abbrev pub compute_c : TreeView → Standing → ℕ → Value → Operator → Value → List ℕ
compute_c t s x v o w =
    codes "  if (" ++ operation_c o ++ codes "(&" ++ local_c t s.thread x ++ codes ", " ++ value_c t s.thread v
    ++ codes ", " ++ value_c t s.thread w ++ codes "))" ++ fault_c s (codes "SECT_OVERFLOW")

-- the value is what the local holds
abbrev pub is_local : ℕ → Value → Bool
is_local x (value.Local y) = nat_eq y x
is_local x _ = false

-- the local that is assigned to, and the sign behind it
abbrev pub target_c : TreeView → Standing → ℕ → List ℕ
target_c t s x = codes "  " ++ local_c t s.thread x ++ codes " = "

-- a statement; that a local becomes what it is isn't said, since compilers warn of it
abbrev pub action_c : TreeView → List Field → Standing → Action → List ℕ
action_c t looked s (Assign x v) =
    if is_local x v then [] else target_c t s x ++ value_c t s.thread v ++ codes ";\n"
action_c t looked s (Compute x v o w) = compute_c t s x v o w
action_c t looked s (New x r site) =
    target_c t s x ++ codes "sect_make(me, sizeof *" ++ local_c t s.thread x ++ codes ", " ++ decimal r ++ codes ");\n"
action_c t looked s (Load x b f) =
    null_test_c t s b ++ target_c t s x ++ load_c t looked s (record { base = b; field = f }) ++ codes ";\n"
action_c t looked s (Store b f v) = null_test_c t s b ++ store_c t looked s (record { base = b; field = f }) v
action_c t looked s (Print v) = codes "  sect_print(me, " ++ value_c t s.thread v ++ codes ");\n"

abbrev pub is_reference_type : ValueType → Bool
is_reference_type Int = false
is_reference_type (Refers r) = true

-- a value of thread u is a reference
abbrev pub is_reference : ProgramView → ℕ → Value → Bool
is_reference p u (value.Number n) = false
is_reference p u value.Null = true
is_reference p u (value.Global g) = true
is_reference p u (value.Local x) = is_reference_type (local_type p u x)

-- a test of integers or of references
abbrev pub comparison_c : Comparison → Bool → List ℕ
comparison_c Equal false = codes "sect_equal"
comparison_c Equal true = codes "sect_same"
comparison_c NotEqual false = codes "!sect_equal"
comparison_c NotEqual true = codes "!sect_same"
comparison_c Less _ = codes "sect_less"
comparison_c LessOrEqual _ = codes "sect_at_most"

abbrev pub condition_c : ProgramView → ℕ → Condition → List ℕ
condition_c p u c =
    codes "  if (" ++ comparison_c c.comparison (is_reference p u c.left) ++ codes "(" ++ value_c p.source u c.left
    ++ codes ", " ++ value_c p.source u c.right ++ codes "))\n  "

-- control goes on
abbrev pub successors_c : GraphOf → Successors → List ℕ
successors_c g (Next n) = codes "  " ++ jump_c g n ++ codes "\n"
successors_c g (Branch holds fails) = codes "  " ++ jump_c g holds ++ codes "\n  else " ++ jump_c g fails ++ codes "\n"

-- a section stands elsewhere, and comes back to its label `left`
abbrev pub crossing_c : Standing → ℕ → List ℕ
crossing_c s i =
    codes "  goto s" ++ decimal i ++ codes ";\n s" ++ decimal i ++ codes "_left: if (end != SECT_DONE) "
    ++ jump_c s.graph s.exit ++ codes "\n"

-- what is done at a node
abbrev pub deed_c : ProgramView → List Field → Standing → Label → List ℕ
deed_c p looked s (Act a) = action_c p.source looked s a
deed_c p looked s (Test c) = condition_c p s.thread c
deed_c p looked s (Section i) = crossing_c s i

-- what takes a unit of fuel
abbrev pub fuel_c : Standing → Label → List ℕ
fuel_c s (Section i) = codes "(void)0"
fuel_c s (Act a) = codes "SECT_STEP(" ++ place_c s.graph s.exit ++ codes ")"
fuel_c s (Test c) = codes "SECT_STEP(" ++ place_c s.graph s.exit ++ codes ")"

-- the label of a node, the fuel that it takes, and its statement as a comment
abbrev pub opening_c : TreeView → Standing → ℕ → Label → List ℕ
opening_c t s n label =
    codes " " ++ place_c s.graph n ++ codes ": " ++ fuel_c s label ++ codes "; /* " ++ label_text t s.thread label
    ++ codes " */\n"

-- a node: what it does, and where control goes on
abbrev pub node_c : ProgramView → List Field → Standing → ℕ → Node → List ℕ
node_c p looked s n x =
    opening_c p.source s n x.label ++ deed_c p looked s x.label ++ successors_c s.graph x.next
