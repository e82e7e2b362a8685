-- Statements and tests as they are printed. `listing` and `explanation` cite it.
use Rattle.std.specs.{Prelude.{ℕ, List, [], ◌++◌, map, slice_index_or, codes}, Fmt.{decimal}}
use Rattle.sect_front.specs.{TreeView.{TreeView}, declared.tree.Thread.{Thread}, declared.tree.Operator.{Operator}}
use Rattle.sect_front.specs.declared.tree.Operator.TheVariants.{Add, Subtract, Multiply}
use Rattle.sect_front.specs.Spelling.{comparison_spelling}
use Rattle.sect_types.specs.{Sight.{names_of_records}, declared.expansion.action.Value.{Value}}
use Rattle.sect_types.specs.{declared.expansion.action.Base.{Base}, declared.expansion.action.Field.{Field}}
use Rattle.sect_types.specs.{declared.expansion.action.Condition.{Condition}, declared.expansion.action.Action.{Action}}
use Rattle.sect_types.specs.declared.expansion.action.Action.TheVariants.{Assign, Compute, New, Load, Store, Print}
use Rattle.sect_types.specs.declared.expansion.action.Label.{Label}
use Rattle.sect_types.specs.declared.expansion.action.Label.TheVariants.{Act, Test, Section}
use Rattle.sect_points.specs.declared.holders.Variable.TheVariants.{Global, Local}
use Rattle.sect_names.specs.Printing.{variable_text, field_name}
use Rattle.sect_types.specs.declared.expansion.action.Value.TheVariants as value
use Rattle.sect_types.specs.declared.expansion.action.Base.TheVariants as base

abbrev pub record_name : TreeView → ℕ → List ℕ
record_name t r = slice_index_or (names_of_records t.records) r []

abbrev pub thread_name : TreeView → ℕ → List ℕ
thread_name t u = slice_index_or (map (λ (x : Thread). x.name) t.threads) u []

abbrev pub operator_text : Operator → List ℕ
operator_text Add = codes "+"
operator_text Subtract = codes "-"
operator_text Multiply = codes "*"

-- a value as thread u calls it
abbrev pub value_text : TreeView → ℕ → Value → List ℕ
value_text t u (value.Number n) = decimal n
value_text t u value.Null = codes "null"
value_text t u (value.Local x) = variable_text t (Local u x)
value_text t u (value.Global g) = variable_text t (Global g)

abbrev pub base_text : TreeView → ℕ → Base → List ℕ
base_text t u (base.Global g) = variable_text t (Global g)
base_text t u (base.Local x) = variable_text t (Local u x)

-- a field of an object that is loaded or stored
abbrev pub access_text : TreeView → ℕ → Base → Field → List ℕ
access_text t u b f = base_text t u b ++ codes "." ++ field_name t f

-- the local that is assigned to, and the sign behind it
abbrev pub target_text : TreeView → ℕ → ℕ → List ℕ
target_text t u x = variable_text t (Local u x) ++ codes " = "

-- a statement of thread u without its `;`
abbrev pub action_text : TreeView → ℕ → Action → List ℕ
action_text t u (Assign x v) = target_text t u x ++ value_text t u v
action_text t u (Compute x v o w) =
    target_text t u x ++ value_text t u v ++ codes " " ++ operator_text o ++ codes " " ++ value_text t u w
action_text t u (New x r site) = target_text t u x ++ codes "new " ++ record_name t r
action_text t u (Load x b f) = target_text t u x ++ access_text t u b f
action_text t u (Store b f v) = access_text t u b f ++ codes " = " ++ value_text t u v
action_text t u (Print v) = codes "print " ++ value_text t u v

-- a test without its brackets
abbrev pub condition_text : TreeView → ℕ → Condition → List ℕ
condition_text t u c =
    value_text t u c.left ++ codes " " ++ comparison_spelling c.comparison ++ codes " " ++ value_text t u c.right

-- what a node of a graph does; a section stands there by its number
abbrev pub label_text : TreeView → ℕ → Label → List ℕ
label_text t u (Act a) = action_text t u a
label_text t u (Test c) = condition_text t u c
label_text t u (Section i) = codes "section " ++ decimal i
