-- Paths that begin with a global or a local of a thread do so when they are carried back in that thread.
use Rattle.std.proofs.Common.{◌≡◌, ℕ, Option, Some, None, refl, sym, subst, inl, inr}
use Rattle.sect_types.specs.{declared.expansion.action.Base.{Base}, declared.expansion.action.Value.{Value}}
use Rattle.sect_types.specs.{declared.expansion.action.Field.{Field}, declared.expansion.action.Label.{Label}}
use Rattle.sect_points.specs.declared.holders.Variable.{Variable}
use Rattle.sect_points.specs.{declared.holders.Variable.TheVariants.{Global, Local}, Paths.{PathView, var, dot}}
use Rattle.sect_points.specs.{Partitions.{ClassesView}, PathClasses.{variable_of, variable_in}}
use Rattle.sect_names.specs.{Locks.{IsOwn}, Carrying.{Replaced, BeforeStore, BeforeAssignment, Before}}
use Rattle.sect_types.specs.declared.expansion.action.Base.TheVariants as base
use Rattle.sect_types.specs.declared.expansion.action.Value.TheVariants as value
use Rattle.sect_types.specs.declared.expansion.action.Action.TheVariants as action
use Rattle.sect_types.specs.declared.expansion.action.Label.TheVariants as label

module _ (t : ℕ) where
  -- a base of a statement is own
  pub own_base : (b : Base) → IsOwn t (var (variable_of t b))
  own_base (base.Local x) = refl
  own_base (base.Global g) = tt

  own_value : (v : Value) (u : Variable) → variable_in t v ≡ Some u → IsOwn t (var u)
  own_value (value.Number n) u e = absurd cc
  own_value value.Null u e = absurd cc
  own_value (value.Local x) u e = let is : Local t x ≡ u = cc in subst (λ y. IsOwn t (var y)) is refl
  own_value (value.Global g) u e = let is : Global g ≡ u = cc in subst (λ y. IsOwn t (var y)) is tt

  replaced_own : (x : Variable) (source : Option PathView) → ((z : PathView) → source ≡ Some z → IsOwn t z)
      → (p q : PathView) → Replaced x source p q → IsOwn t p → IsOwn t q
  replaced_own x source own (var v) q h k = elim h [ inl a ↦ own q a.1 | inr b ↦ subst (IsOwn t) (sym b.1) k ]
  replaced_own x source own (dot p f) q (r, before, is) k =
      subst (IsOwn t) (sym is) (replaced_own x source own p r before k)

  copied_own : (x : Variable) (source : PathView) → IsOwn t source → (p q : PathView) → Replaced x (Some source) p q
      → IsOwn t p → IsOwn t q
  copied_own x source own p q h k =
      replaced_own x (Some source) (λ z e. (let is : source ≡ z = cc in subst (IsOwn t) is own)) p q h k

  gone_own : (x : Variable) (p q : PathView) → Replaced x None p q → IsOwn t p → IsOwn t q
  gone_own x p q h k = replaced_own x None (λ z e. absurd cc) p q h k

  stored_own : (c : ClassesView) (z : Variable) (f : Field) (w : Option Variable)
      → ((v : Variable) → w ≡ Some v → IsOwn t (var v)) → (p q : PathView) → BeforeStore c z f w p q → IsOwn t p
      → IsOwn t q
  stored_own c z f w own (var v) q is k = subst (IsOwn t) (sym is) k
  stored_own c z f w own (dot p g) q h k = elim h [
    | inl (r, before, goes) ↦ subst (IsOwn t) (sym goes.1) (stored_own c z f w own p r before k)
    | inr (same, one, (v, reads, is)) ↦ subst (IsOwn t) (sym is) (own v reads)
  ]

  assigned_own : (x : ℕ) (v : Value) (p q : PathView) → BeforeAssignment t x v p q → IsOwn t p → IsOwn t q
  assigned_own x (value.Number n) p q is k = subst (IsOwn t) (sym is) k
  assigned_own x value.Null p q h k = gone_own (Local t x) p q h k
  assigned_own x (value.Local y) p q h k = copied_own (Local t x) (var (Local t y)) refl p q h k
  assigned_own x (value.Global g) p q h k = copied_own (Local t x) (var (Global g)) tt p q h k

  -- what is carried back in a thread begins there too
  pub own_before : (c : ClassesView) (step : Label) (p q : PathView) → Before c t step p q → IsOwn t p → IsOwn t q
  own_before c (label.Act (action.Assign x v)) p q h k = assigned_own x v p q h k
  own_before c (label.Act (action.Compute x v o w)) p q is k = subst (IsOwn t) (sym is) k
  own_before c (label.Act (action.New x r i)) p q h k = gone_own (Local t x) p q h k
  own_before c (label.Act (action.Load x b f)) p q h k =
      copied_own (Local t x) (dot (var (variable_of t b)) f) (own_base b) p q h k
  own_before c (label.Act (action.Store b f v)) p q h k =
      stored_own c (variable_of t b) f (variable_in t v) (own_value v) p q h k
  own_before c (label.Act (action.Print v)) p q is k = subst (IsOwn t) (sym is) k
  own_before c (label.Test d) p q is k = subst (IsOwn t) (sym is) k
  own_before c (label.Section i) p q is k = subst (IsOwn t) (sym is) k
