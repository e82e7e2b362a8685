-- The nodes of sound texts say what they are.
use Rattle.std.proofs.Common.{◌≡◌, ◌<◌, ◌≤◌, ℕ, ◌+◌, List, [], ◌∷◌, ◌++◌, Option, Some, None, Bool, true, false, length}
use Rattle.std.proofs.Common.{arith}
use Rattle.std.proofs.{Common.{refl}, lemmas.Option.{slice_get_within}}
use Rattle.std.specs.{Prelude.{slice_get, slice_index_or}, List.{AllByRecursion}}
use Rattle.sect_types.specs.declared.declarations.types.ValueType.{ValueType}
use Rattle.sect_types.specs.declared.declarations.types.ValueType.TheVariants.{Int, Refers}
use Rattle.sect_types.specs.{declared.expansion.action.Base.{Base}, declared.expansion.action.Value.{Value}}
use Rattle.sect_types.specs.{declared.expansion.action.Field.{Field}, declared.expansion.action.Condition.{Condition}}
use Rattle.sect_types.specs.declared.expansion.action.Action.{Action}
use Rattle.sect_types.specs.declared.expansion.action.Action.TheVariants.{Assign, Compute, New, Load, Store, Print}
use Rattle.sect_types.specs.Programs.{ProgramView, environment_at}
use Rattle.sect_types.specs.Sound.{reference_to, type_at, type_in, field_type, HasType, IsSoundAction, IsSoundCondition}
use Rattle.sect_types.specs.{Sound.{AreAlike, IsSound}, Kinds.{compares_integers}}
use Rattle.sect_types.specs.{Statements.{TextView, Stop, Do, Choose, Loop, Section}, Traces.{node_count}}
use Rattle.sect_graph.specs.{Layout.{entry_of, nodes_of, flow_nodes}}
use Rattle.sect_names.specs.Locks.{IsField}
use Rattle.sect_c.specs.Fits.{member, FitsValue, FitsBase, FitsMember, FitsAction, FitsLabel, FitsNode}
use Rattle.sect_c.specs.Short.{IsShort, HasShort, AreShort}
use Rattle.sect_types.specs.declared.expansion.action.Label.TheVariants.{Test}
use Rattle.sect_types.specs.declared.expansion.action.Base.TheVariants as base
use Rattle.sect_types.specs.declared.expansion.action.Value.TheVariants as value

-- those of both of two graphs
both : {A : Type 0} (P : A → Type 0) (g h : List A) → AllByRecursion P g → AllByRecursion P h
    → AllByRecursion P (g ++ h)
both P [] h a b = b
both P (x ∷ g) h a b = (a.0, both P g h a.1 b)

module _ (p : ProgramView) (u : ℕ) (few : length (slice_index_or p.locals u []) ≤ 4160)
    (records : length p.records ≤ 64) where
  local_fits : (x : ℕ) (t : ValueType) → slice_get (environment_at p u).locals x ≡ Some t → x < 65536
  local_fits x t at = let l = slice_get_within (slice_index_or p.locals u []) x t at in omega (arith, l)

  referred : (g : ℕ) (o : Option ℕ) (t : ValueType) → slice_get p.globals g ≡ o → reference_to o ≡ Some t
      → g < length p.globals
  referred g None t at is = absurd cc
  referred g (Some r) t at is = slice_get_within p.globals g r at

  global_there : (g : ℕ) (t : ValueType) → reference_to (slice_get p.globals g) ≡ Some t → g < length p.globals
  global_there g t is = referred g (slice_get p.globals g) t refl is

  value_fits : (v : Value) (t : ValueType) → HasType (environment_at p u) v t → IsShort v → FitsValue p v
  value_fits (value.Number n) t is short = short
  value_fits value.Null t is short = tt
  value_fits (value.Local x) t is short = local_fits x t is
  value_fits (value.Global g) t is short = global_there g t is

  base_fits : (b : Base) (t : ValueType) → type_at (environment_at p u) b ≡ Some t → FitsBase p b
  base_fits (base.Global g) t is = global_there g t is
  base_fits (base.Local x) t is = local_fits x t is

  in_record : (f : Field) (o : Option (List ValueType)) (t : ValueType) → slice_get p.records f.of ≡ o
      → type_in o f.number ≡ Some t → IsField p f
  in_record f None t at is = absurd cc
  in_record f (Some ts) t at is = (ts, at, slice_get_within ts f.number t is)

  member_fits : (b : Base) (f : Field) (t : ValueType) → type_at (environment_at p u) b ≡ Some (Refers f.of)
      → field_type (environment_at p u) f ≡ Some t → FitsMember p u (member b f)
  member_fits b f t is at = record {
    base = base_fits b (Refers f.of) is;
    refers = is;
    field = in_record f (slice_get p.records f.of) t refl at;
  }

  action_fits : (a : Action) → IsSoundAction (environment_at p u) a → HasShort a → FitsAction p u a
  action_fits (Assign x v) is short = (local_fits x is.0 is.1, value_fits v is.0 is.2 short)
  action_fits (Compute x v o w) is short =
      (local_fits x Int is.0, value_fits v Int is.1 short.0, value_fits w Int is.2 short.1)
  action_fits (New x r site) is short = (local_fits x (Refers r) is.1, (let l = is.0 in omega (arith, l)))
  action_fits (Load x b f) is short = (local_fits x is.0 is.3, member_fits b f is.0 is.1 is.2)
  action_fits (Store b f v) is short = (member_fits b f is.0 is.1 is.2, value_fits v is.0 is.3 short)
  action_fits (Print v) is short = value_fits v Int is short

  alike : (integers : Bool) (v w : Value) → AreAlike integers (environment_at p u) v w → IsShort v → IsShort w
      → FitsValue p v × FitsValue p w
  alike true v w is s t = (value_fits v Int is.0 s, value_fits w Int is.1 t)
  alike false v w is s t = (value_fits v is.0 is.1 s, value_fits w is.0 is.2 t)

  condition_fits : (c : Condition) → IsSoundCondition (environment_at p u) c → IsShort c.left → IsShort c.right
      → FitsLabel p u (Test c)
  condition_fits c is s t = alike (compares_integers c.comparison) c.left c.right is s t

  entry_fits : (text : TextView) (n next : ℕ) → n < 65536 → next < 65536 → entry_of text n next < 65536
  entry_fits Stop n next a b = b
  entry_fits (Do x k) n next a b = a
  entry_fits (Choose c x y k) n next a b = a
  entry_fits (Loop c x k) n next a b = a
  entry_fits (Section i x k) n next a b = a

  nodes_fit : (inside : Bool) (text : TextView) → IsSound (environment_at p u) inside text → AreShort text
      → (n next : ℕ)
      → n + node_count text < 65536 → next < 65536 → AllByRecursion (FitsNode p u) (nodes_of text n next)
  nodes_fit inside Stop is short n next l m = tt
  nodes_fit inside (Do a k) is short n next l m = (
    record { label = action_fits a is.0 short.0; next = entry_fits k (n + 1) next (omega arith) m },
    nodes_fit inside k is.2 short.1 (n + 1) next (omega arith) m,
  )
  nodes_fit inside (Choose c a b k) is short n next l m =
      let end = n + 1 + node_count a + node_count b in
      let after = entry_of k end next in
      let there : after < 65536 = entry_fits k end next (omega arith) m in
      let first = nodes_of a (n + 1) after in
      let second = nodes_of b (n + 1 + node_count a) after in (
        record {
          label = condition_fits c is.0 short.0 short.1;
          next = (
            entry_fits a (n + 1) after (omega arith) there,
            entry_fits b (n + 1 + node_count a) after
                (omega arith) there,
          );
        },
        both (FitsNode p u) first (second ++ nodes_of k end next)
            (nodes_fit inside a is.1 short.2 (n + 1) after (omega arith) there)
            (both (FitsNode p u) second (nodes_of k end next)
            (nodes_fit inside b is.2 short.3 (n + 1 + node_count a) after (omega arith) there)
            (nodes_fit inside k is.3 short.4 end next (omega arith) m)),
      )
  nodes_fit inside (Loop c a k) is short n next l m =
      let end = n + 1 + node_count a in (
        record {
          label = condition_fits c is.0 short.0 short.1;
          next = (entry_fits a (n + 1) n (omega arith) (omega arith), entry_fits k end next (omega arith) m);
        },
        both (FitsNode p u) (nodes_of a (n + 1) n) (nodes_of k end next)
            (nodes_fit inside a is.1 short.2 (n + 1) n (omega arith) (omega arith))
            (nodes_fit inside k is.2 short.3 end next (omega arith) m),
      )
  nodes_fit inside (Section i a k) is short n next l m = (
    record { label = short.0; next = entry_fits k (n + 1) next (omega arith) m },
    nodes_fit inside k is.2 short.2 (n + 1) next (omega arith) m,
  )

  -- of a whole text
  pub flow_fits : (inside : Bool) (text : TextView) → IsSound (environment_at p u) inside text → AreShort text
      → node_count text < 65536 → AllByRecursion (FitsNode p u) (flow_nodes text)
  flow_fits inside text is short l = nodes_fit inside text is short 0 (node_count text) (omega arith) l
