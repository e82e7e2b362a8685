-- TextView whose variables are moved stay sound where the types are moved with them.
use Rattle.std.proofs.Common.{◌≡◌, ℕ, ◌+◌, Bool, true, false, List, Some, slice_get}
use Rattle.sect_types.specs.declared.declarations.types.ValueType.{ValueType}
use Rattle.sect_types.specs.declared.declarations.types.ValueType.TheVariants.{Int, Refers}
use Rattle.sect_types.specs.{declared.expansion.action.Base.{Base}, declared.expansion.action.Value.{Value}}
use Rattle.sect_types.specs.{declared.expansion.action.Condition.{Condition}, declared.expansion.action.Action.{Action}}
use Rattle.sect_types.specs.{Environments.{Environment}, Kinds.{compares_integers}}
use Rattle.sect_types.specs.Sound.{type_at, HasType, IsSoundAction, AreAlike, IsSoundCondition}
use Rattle.sect_types.specs.Expanded.{moved_value, moved_base, moved_action, moved_condition}
use Rattle.sect_types.specs.declared.expansion.action.Base.TheVariants as base
use Rattle.sect_types.specs.declared.expansion.action.Value.TheVariants as value
use Rattle.sect_types.specs.declared.expansion.action.Action.TheVariants as action

abbrev pub with_locals : Environment → List ValueType → Environment
with_locals e ls = record { records = e.records; globals = e.globals; locals = ls }

-- the types of the variables stand among those of the thread's locals from number n on
abbrev pub StandFrom : ℕ → List ValueType → List ValueType → Type 0
StandFrom n few all = (i : ℕ) (ty : ValueType) → slice_get few i ≡ Some ty → slice_get all (n + i) ≡ Some ty

pub moved_type : (e : Environment) (n : ℕ) (all : List ValueType) → StandFrom n e.locals all
    → (v : Value) (ty : ValueType) →
    HasType e v ty → HasType (with_locals e all) (moved_value n v) ty
moved_type e n all h (value.Number m) Int p = p
moved_type e n all h (value.Number m) (Refers r) p = p
moved_type e n all h value.Null Int p = p
moved_type e n all h value.Null (Refers r) p = p
moved_type e n all h (value.Local i) ty p = h i ty p
moved_type e n all h (value.Global g) ty p = p

moved_at : (e : Environment) (n : ℕ) (all : List ValueType) → StandFrom n e.locals all → (b : Base) (ty : ValueType) →
    type_at e b ≡ Some ty → type_at (with_locals e all) (moved_base n b) ≡ Some ty
moved_at e n all h (base.Local i) ty p = h i ty p
moved_at e n all h (base.Global g) ty p = p

pub moved_sound : (e : Environment) (n : ℕ) (all : List ValueType) → StandFrom n e.locals all → (a : Action) →
    IsSoundAction e a → IsSoundAction (with_locals e all) (moved_action n a)
moved_sound e n all h (action.Assign x v) p = (p.0, h x p.0 p.1, moved_type e n all h v p.0 p.2)
moved_sound e n all h (action.Compute x v o w) p =
    (h x Int p.0, moved_type e n all h v Int p.1, moved_type e n all h w Int p.2)
moved_sound e n all h (action.New x r site) p = (p.0, h x (Refers r) p.1)
moved_sound e n all h (action.Load x b f) p = (p.0, moved_at e n all h b (Refers f.of) p.1, p.2, h x p.0 p.3)
moved_sound e n all h (action.Store b f v) p =
    (p.0, moved_at e n all h b (Refers f.of) p.1, p.2, moved_type e n all h v p.0 p.3)
moved_sound e n all h (action.Print v) p = moved_type e n all h v Int p

moved_alike : (e : Environment) (n : ℕ) (all : List ValueType) → StandFrom n e.locals all → (integers : Bool)
    (v w : Value) → AreAlike integers e v w → AreAlike integers (with_locals e all) (moved_value n v) (moved_value n w)
moved_alike e n all h true v w p = (moved_type e n all h v Int p.0, moved_type e n all h w Int p.1)
moved_alike e n all h false v w p = (p.0, moved_type e n all h v p.0 p.1, moved_type e n all h w p.0 p.2)

pub moved_holds : (e : Environment) (n : ℕ) (all : List ValueType) → StandFrom n e.locals all → (c : Condition) →
    IsSoundCondition e c → IsSoundCondition (with_locals e all) (moved_condition n c)
moved_holds e n all h c p = moved_alike e n all h (compares_integers c.comparison) c.left c.right p
