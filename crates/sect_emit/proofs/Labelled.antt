-- What the nodes of a sound text's graph name is there.
use Rattle.std.proofs.Common.{◌≡◌, ◌<◌, ℕ, ◌+◌, List, [], ◌∷◌, ◌++◌, Option, Some, None, Bool, true, false, length}
use Rattle.std.proofs.{Common.{refl}, lemmas.Option.{slice_get_within}}
use Rattle.std.specs.Prelude.{slice_get, slice_index_or}
use Rattle.sect_types.specs.declared.declarations.types.ValueType.{ValueType}
use Rattle.sect_types.specs.declared.declarations.types.ValueType.TheVariants.{Int, Refers}
use Rattle.sect_types.specs.{declared.expansion.action.Base.{Base}, declared.expansion.action.Value.{Value}}
use Rattle.sect_types.specs.{declared.expansion.action.Field.{Field}, declared.expansion.action.Condition.{Condition}}
use Rattle.sect_types.specs.declared.expansion.action.Action.{Action}
use Rattle.sect_types.specs.declared.expansion.action.Action.TheVariants.{Assign, Compute, New, Load, Store, Print}
use Rattle.sect_types.specs.Programs.{ProgramView, environment_at}
use Rattle.sect_types.specs.Sound.{reference_to, type_at, type_in, field_type, HasType, IsSoundAction, IsSoundCondition}
use Rattle.sect_types.specs.{Sound.{AreAlike, IsSound}, Kinds.{compares_integers}}
use Rattle.sect_types.specs.{Statements.{TextView, Stop, Do, Choose, Loop, Section}, Traces.{node_count}}
use Rattle.sect_graph.specs.{declared.flow.Node.{Node}, Layout.{entry_of, nodes_of, flow_nodes}}
use Rattle.sect_names.specs.Locks.{IsField}
use Rattle.sect_emit.specs.Naming.{IsLocalOf, IsValueOf, IsBaseOf, IsActionOf, IsConditionOf, AreNodesOf}
use Rattle.sect_types.specs.declared.expansion.action.Base.TheVariants as base
use Rattle.sect_types.specs.declared.expansion.action.Value.TheVariants as value

-- those of both of two graphs
both : (p : ProgramView) (u : ℕ) (g h : List Node) → AreNodesOf p u g → AreNodesOf p u h → AreNodesOf p u (g ++ h)
both p u [] h a b = b
both p u (x ∷ g) h a b = (a.0, both p u g h a.1 b)

module _ (p : ProgramView) (u : ℕ) where
  local_there : (x : ℕ) (t : ValueType) → slice_get (environment_at p u).locals x ≡ Some t → IsLocalOf p u x
  local_there x t at = slice_get_within (slice_index_or p.locals u []) x t at

  referred : (g : ℕ) (o : Option ℕ) (t : ValueType) → slice_get p.globals g ≡ o → reference_to o ≡ Some t
      → g < length p.globals
  referred g None t at is = absurd cc
  referred g (Some r) t at is = slice_get_within p.globals g r at

  global_there : (g : ℕ) (t : ValueType) → reference_to (slice_get p.globals g) ≡ Some t → g < length p.globals
  global_there g t is = referred g (slice_get p.globals g) t refl is

  value_there : (v : Value) (t : ValueType) → HasType (environment_at p u) v t → IsValueOf p u v
  value_there (value.Number n) t is = tt
  value_there value.Null t is = tt
  value_there (value.Local x) t is = local_there x t is
  value_there (value.Global g) t is = global_there g t is

  base_there : (b : Base) (t : ValueType) → type_at (environment_at p u) b ≡ Some t → IsBaseOf p u b
  base_there (base.Global g) t is = global_there g t is
  base_there (base.Local x) t is = local_there x t is

  in_record : (f : Field) (o : Option (List ValueType)) (t : ValueType) → slice_get p.records f.of ≡ o
      → type_in o f.number ≡ Some t → IsField p f
  in_record f None t at is = absurd cc
  in_record f (Some ts) t at is = (ts, at, slice_get_within ts f.number t is)

  field_there : (f : Field) (t : ValueType) → field_type (environment_at p u) f ≡ Some t → IsField p f
  field_there f t is = in_record f (slice_get p.records f.of) t refl is

  action_there : (a : Action) → IsSoundAction (environment_at p u) a → IsActionOf p u a
  action_there (Assign x v) is = (local_there x is.0 is.1, value_there v is.0 is.2)
  action_there (Compute x v o w) is = (local_there x Int is.0, value_there v Int is.1, value_there w Int is.2)
  action_there (New x r site) is = (local_there x (Refers r) is.1, is.0)
  action_there (Load x b f) is =
      (local_there x is.0 is.3, base_there b (Refers f.of) is.1, field_there f is.0 is.2)
  action_there (Store b f v) is =
      (base_there b (Refers f.of) is.1, field_there f is.0 is.2, value_there v is.0 is.3)
  action_there (Print v) is = value_there v Int is

  alike : (integers : Bool) (v w : Value) → AreAlike integers (environment_at p u) v w
      → IsValueOf p u v × IsValueOf p u w
  alike true v w is = (value_there v Int is.0, value_there w Int is.1)
  alike false v w is = (value_there v is.0 is.1, value_there w is.0 is.2)

  condition_there : (c : Condition) → IsSoundCondition (environment_at p u) c → IsConditionOf p u c
  condition_there c is = alike (compares_integers c.comparison) c.left c.right is

  nodes_there : (inside : Bool) (text : TextView) → IsSound (environment_at p u) inside text → (n next : ℕ)
      → AreNodesOf p u (nodes_of text n next)
  nodes_there inside Stop is n next = tt
  nodes_there inside (Do a k) is n next = (action_there a is.0, nodes_there inside k is.2 (n + 1) next)
  nodes_there inside (Choose c a b k) is n next =
      let end = n + 1 + node_count a + node_count b in
      let after = entry_of k end next in
      let first = nodes_of a (n + 1) after in
      let second = nodes_of b (n + 1 + node_count a) after in (
        condition_there c is.0,
        both p u first (second ++ nodes_of k end next) (nodes_there inside a is.1 (n + 1) after)
            (both p u second (nodes_of k end next) (nodes_there inside b is.2 (n + 1 + node_count a) after)
            (nodes_there inside k is.3 end next)),
      )
  nodes_there inside (Loop c a k) is n next =
      let end = n + 1 + node_count a in (
        condition_there c is.0,
        both p u (nodes_of a (n + 1) n) (nodes_of k end next)
            (nodes_there inside a is.1 (n + 1) n) (nodes_there inside k is.2 end next),
      )
  nodes_there inside (Section i a k) is n next = (tt, nodes_there inside k is.2 (n + 1) next)

-- of a whole text
pub flow_there : (p : ProgramView) (u : ℕ) (inside : Bool) (text : TextView)
    → IsSound (environment_at p u) inside text → AreNodesOf p u (flow_nodes text)
flow_there p u inside text is = nodes_there p u inside text is 0 (node_count text)
