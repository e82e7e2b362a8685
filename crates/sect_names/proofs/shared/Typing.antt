-- Paths that refer to objects do so when they are carried back over a sound step, to objects of the same record.
use Rattle.std.proofs.Common.{◌≡◌, ℕ, Option, Some, None, [], sym, ap, ◌∙◌, subst, inl, inr}
use Rattle.std.specs.Prelude.{slice_get, slice_index_or}
use Rattle.sect_types.specs.Programs.{ProgramView, environment_at}
use Rattle.sect_types.specs.Sound.{reference_to, type_at, field_type, HasType, IsSoundAction}
use Rattle.sect_types.specs.declared.declarations.types.ValueType.{ValueType}
use Rattle.sect_types.specs.declared.declarations.types.ValueType.TheVariants.{Refers}
use Rattle.sect_types.specs.{declared.expansion.action.Base.{Base}, declared.expansion.action.Value.{Value}}
use Rattle.sect_types.specs.{declared.expansion.action.Field.{Field}, declared.expansion.action.Action.{Action}}
use Rattle.sect_types.specs.declared.expansion.action.Label.{Label}
use Rattle.sect_points.specs.declared.holders.Variable.{Variable}
use Rattle.sect_points.specs.{declared.holders.Variable.TheVariants.{Global, Local}, Paths.{PathView, var, dot}}
use Rattle.sect_points.specs.{Partitions.{ClassesView}, PathClasses.{variable_of, variable_in}}
use Rattle.sect_names.specs.Carrying.{Replaced, BeforeStore, BeforeAssignment, BeforeAction, Before}
use Rattle.sect_names.specs.{Laws.{IsSoundStep}, Locks.{VariableTo, FieldTo, PathTo}}
use Rattle.sect_types.specs.declared.expansion.action.Base.TheVariants as base
use Rattle.sect_types.specs.declared.expansion.action.Value.TheVariants as value
use Rattle.sect_types.specs.declared.expansion.action.Action.TheVariants as action
use Rattle.sect_types.specs.declared.expansion.action.Label.TheVariants as label

-- there is one type at most
pub same_type : (o : Option ValueType) (a b : ValueType) → o ≡ Some a → o ≡ Some b → a ≡ b
same_type o a b e f = let g : Some a ≡ Some b = sym e ∙ f in cc

-- the type of a reference names its record
pub reference_of : (o : Option ℕ) (r : ℕ) → reference_to o ≡ Some (Refers r) → o ≡ Some r
reference_of None r e = absurd cc
reference_of (Some q) r e = let is : q ≡ r = cc in ap (λ x. Some x) is

module _ (p : ProgramView) where
  -- a typed base is a typed variable
  pub base_to : (t : ℕ) (b : Base) (r : ℕ) → type_at (environment_at p t) b ≡ Some (Refers r)
      → VariableTo p (variable_of t b) r
  base_to t (base.Local x) r e = e
  base_to t (base.Global g) r e = reference_of (slice_get p.globals g) r e

  -- so is the variable of a typed value
  pub value_to : (t : ℕ) (v : Value) (r : ℕ) → HasType (environment_at p t) v (Refers r) → (w : Variable)
      → variable_in t v ≡ Some w → VariableTo p w r
  value_to t (value.Number n) r h w e = absurd h
  value_to t value.Null r h w e = absurd cc
  value_to t (value.Local x) r h w e = let is : Local t x ≡ w = cc in subst (λ u. VariableTo p u r) is h
  value_to t (value.Global g) r h w e = let is : Global g ≡ w = cc in
      subst (λ u. VariableTo p u r) is (reference_of (slice_get p.globals g) r h)

  replaced_to : (x : Variable) (source : Option PathView)
      → ((z : PathView) → source ≡ Some z → (r : ℕ) → VariableTo p x r → PathTo p z r)
      → (path q : PathView) (r : ℕ) → Replaced x source path q → PathTo p path r → PathTo p q r
  replaced_to x source to (var v) q r h k = elim h [
    | inl a ↦ to q a.1 r (subst (λ u. VariableTo p u r) a.0 k)
    | inr b ↦ subst (λ z. PathTo p z r) (sym b.1) k
  ]
  replaced_to x source to (dot e f) q r (z, before, is) k =
      subst (λ z. PathTo p z r) (sym is) (replaced_to x source to e z f.of before k.0, k.1)

  copied_to : (x : Variable) (source : PathView) → ((r : ℕ) → VariableTo p x r → PathTo p source r)
      → (path q : PathView) (r : ℕ) → Replaced x (Some source) path q → PathTo p path r → PathTo p q r
  copied_to x source to path q r h k =
      replaced_to x (Some source) (λ z e.
      (let is : source ≡ z = cc in subst (λ z. (r : ℕ) → VariableTo p x r → PathTo p z r) is to)) path q r h k

  gone_to : (x : Variable) (path q : PathView) (r : ℕ) → Replaced x None path q → PathTo p path r → PathTo p q r
  gone_to x path q r h k = replaced_to x None (λ z e. absurd cc) path q r h k

  stored_to : (c : ClassesView) (z : Variable) (f : Field) (w : Option Variable)
      → ((v : Variable) (r : ℕ) → w ≡ Some v → FieldTo p f.of f.number r → VariableTo p v r)
      → (path q : PathView) (r : ℕ) → BeforeStore c z f w path q → PathTo p path r → PathTo p q r
  stored_to c z f w to (var v) q r is k = subst (λ x. PathTo p x r) (sym is) k
  stored_to c z f w to (dot e g) q r h k = elim h [
    | inl (x, before, goes) ↦ subst (λ y. PathTo p y r) (sym goes.1) (stored_to c z f w to e x g.of before k.0, k.1)
    | inr (same, one, (v, reads, is)) ↦
        subst (λ y. PathTo p y r) (sym is) (to v r reads (subst (λ (u : Field). FieldTo p u.of u.number r) same k.1))
  ]

  assigned_to : (t x : ℕ) (v : Value) (ty : ValueType) → slice_get (slice_index_or p.locals t []) x ≡ Some ty
      → HasType (environment_at p t) v ty
      → (path q : PathView) (r : ℕ) → BeforeAssignment t x v path q → PathTo p path r → PathTo p q r
  assigned_to t x (value.Number n) ty at sound path q r is k = subst (λ y. PathTo p y r) (sym is) k
  assigned_to t x value.Null ty at sound path q r h k = gone_to (Local t x) path q r h k
  assigned_to t x (value.Local y) ty at sound path q r h k =
      copied_to (Local t x) (var (Local t y))
      (λ r e. sound ∙ ap (λ u. Some u) (same_type (slice_get (slice_index_or p.locals t []) x) ty (Refers r) at e))
      path q r h k
  assigned_to t x (value.Global g) ty at sound path q r h k =
      copied_to (Local t x) (var (Global g))
      (λ r e. reference_of (slice_get p.globals g) r
      (sound ∙ ap (λ u. Some u) (same_type (slice_get (slice_index_or p.locals t []) x) ty (Refers r) at e))) path q
      r h k

  action_to : (c : ClassesView) (t : ℕ) (a : Action) → IsSoundAction (environment_at p t) a
      → (path q : PathView) (r : ℕ) → BeforeAction c t a path q → PathTo p path r → PathTo p q r
  action_to c t (action.Assign x v) sound path q r h k = assigned_to t x v sound.0 sound.1 sound.2 path q r h k
  action_to c t (action.Compute x v o w) sound path q r is k = subst (λ y. PathTo p y r) (sym is) k
  action_to c t (action.New x of i) sound path q r h k = gone_to (Local t x) path q r h k
  action_to c t (action.Load x b f) sound path q r h k =
      copied_to (Local t x) (dot (var (variable_of t b)) f) (λ r e. (
        base_to t b f.of sound.1,
        sound.2 ∙ ap (λ u. Some u) (same_type (slice_get (slice_index_or p.locals t []) x) sound.0 (Refers r) sound.3
            e),
      )) path q r h k
  action_to c t (action.Store b f v) sound path q r h k =
      stored_to c (variable_of t b) f (variable_in t v)
      (λ w r e to. value_to t v r (subst (HasType (environment_at p t) v)
      (same_type (field_type (environment_at p t) f) sound.0 (Refers r) sound.2 to) sound.3) w e) path q r h k
  action_to c t (action.Print v) sound path q r is k = subst (λ y. PathTo p y r) (sym is) k

  -- over a sound step a typed path comes from a typed one, of the same record
  pub path_to : (c : ClassesView) (t : ℕ) (step : Label) → IsSoundStep p t step → (path q : PathView) (r : ℕ)
      → Before c t step path q → PathTo p path r → PathTo p q r
  path_to c t (label.Act a) sound path q r h k = action_to c t a sound path q r h k
  path_to c t (label.Test d) sound path q r is k = subst (λ y. PathTo p y r) (sym is) k
  path_to c t (label.Section i) sound path q r is k = subst (λ y. PathTo p y r) (sym is) k
