-- What may denote before a step what a path denotes after it has no class but the path's.
use Rattle.std.proofs.Common.{◌≡◌, ℕ, Option, Some, None, refl, sym, subst, inl, inr}
use Rattle.sect_types.specs.{declared.expansion.action.Field.{Field}, declared.expansion.action.Value.{Value}}
use Rattle.sect_types.specs.{declared.expansion.action.Action.{Action}, declared.expansion.action.Label.{Label}}
use Rattle.sect_points.specs.declared.holders.Variable.{Variable}
use Rattle.sect_points.specs.{declared.holders.Variable.TheVariants.{Global, Local}, Paths.{PathView, var, dot}}
use Rattle.sect_points.specs.Partitions.{ClassesView, HasClass}
use Rattle.sect_points.specs.PathClasses.{Agree, ArePathClasses, KeepsClasses, variable_of, variable_in}
use Rattle.sect_points.specs.Statements.{thread_action, thread_actions}
use Rattle.sect_names.specs.Schemes.{SchemeView, IsScheme}
use Rattle.sect_names.specs.Carrying.{Replaced, BeforeStore, BeforeAssignment, BeforeAction}
use Rattle.sect_names.specs.Laws.{IsProgramStep, KeepsItsClass}
use Rattle.sect_points.proofs.shared.ClassLaws.{path_classes, keeps_classes}
use Rattle.sect_types.specs.declared.expansion.action.Value.TheVariants as value
use Rattle.sect_types.specs.declared.expansion.action.Action.TheVariants as action
use Rattle.sect_types.specs.declared.expansion.action.Label.TheVariants as label

-- paths go on by one field to one class, where they have one
pub agree_field : (c : ClassesView) → ArePathClasses c → (q p : PathView) (f : Field) → Agree c q p
    → Agree c (dot q f) (dot p f)
agree_field c laws q p f same m n h k =
    let below = laws.down q f m h in
    let beside = laws.down p f n k in
    laws.step q p f beside.0 (subst (HasClass c q) (same below.0 beside.0 below.1 beside.1) below.1) beside.1 m n h k

-- what takes the place of a base agrees with it: then so do the paths
pub agree_replaced : (c : ClassesView) → ArePathClasses c → (x : Variable) (source : Option PathView)
    → ((q : PathView) → source ≡ Some q → Agree c q (var x))
    → (p q : PathView) → Replaced x source p q → Agree c q p
agree_replaced c laws x source agrees (var v) q h = elim h [
  | inl a ↦ subst (λ w. Agree c q (var w)) (sym a.0) (agrees q a.1)
  | inr b ↦ subst (λ r. Agree c r (var v)) (sym b.1) (laws.one (var v))
]
agree_replaced c laws x source agrees (dot p f) q (r, before, is) =
    subst (λ z. Agree c z (dot p f)) (sym is)
    (agree_field c laws r p f (agree_replaced c laws x source agrees p r before))

-- where what takes its place passes its class to the base
agree_copied : (c : ClassesView) → ArePathClasses c → (x : Variable) (source : PathView)
    → ((n : ℕ) → HasClass c source n → HasClass c (var x) n)
    → (p q : PathView) → Replaced x (Some source) p q → Agree c q p
agree_copied c laws x source moves p q h =
    let agrees : Agree c source (var x) = λ m n h k. laws.one (var x) m n (moves m h) k in
    agree_replaced c laws x (Some source)
    (λ r e. (let is : source ≡ r = cc in subst (λ z. Agree c z (var x)) is agrees)) p q h

-- where nothing takes its place
agree_gone : (c : ClassesView) → ArePathClasses c → (x : Variable) (p q : PathView) → Replaced x None p q → Agree c q p
agree_gone c laws x p q h = agree_replaced c laws x None (λ r e. absurd cc) p q h

-- the path itself agrees
agree_itself : (c : ClassesView) → ArePathClasses c → (p q : PathView) → q ≡ p → Agree c q p
agree_itself c laws p q is = subst (λ r. Agree c r p) (sym is) (laws.one p)

-- over a store whose value has the class of the field that is stored
pub agree_stored : (c : ClassesView) → ArePathClasses c → (z : Variable) (f : Field) (w : Option Variable)
    → ((v : Variable) (m n : ℕ) → w ≡ Some v → HasClass c (var z) m → HasClass c (var v) n
    → HasClass c (dot (var z) f) n)
    → (p q : PathView) → BeforeStore c z f w p q → Agree c q p
agree_stored c laws z f w stores (var v) q is = subst (λ r. Agree c r (var v)) (sym is) (laws.one (var v))
agree_stored c laws z f w stores (dot p g) q h = elim h [
  | inl (r, before, goes) ↦ subst (λ x. Agree c x (dot p g)) (sym goes.1)
      (agree_field c laws r p g (agree_stored c laws z f w stores p r before))
  | inr (same, one, (v, reads, is)) ↦
      subst (λ x. Agree c x (dot p g)) (sym is) (subst (λ e. Agree c (var v) (dot p e)) (sym same) (λ m n h k.
      laws.step (var z) p f one.0 one.2 one.1 m n (stores v one.0 m reads one.2 h) k))
]

agree_assigned : (c : ClassesView) → ArePathClasses c → (t x : ℕ) (v : Value) → KeepsClasses c t (action.Assign x v)
    → (p q : PathView) → BeforeAssignment t x v p q → Agree c q p
agree_assigned c laws t x (value.Number n) keeps p q is = agree_itself c laws p q is
agree_assigned c laws t x value.Null keeps p q h = agree_gone c laws (Local t x) p q h
agree_assigned c laws t x (value.Local y) keeps p q h =
    agree_copied c laws (Local t x) (var (Local t y)) (λ n. keeps (Local t y) n refl) p q h
agree_assigned c laws t x (value.Global g) keeps p q h =
    agree_copied c laws (Local t x) (var (Global g)) (λ n. keeps (Global g) n refl) p q h

pub agree_before : (c : ClassesView) → ArePathClasses c → (t : ℕ) (a : Action) → KeepsClasses c t a → (p q : PathView)
    → BeforeAction c t a p q → Agree c q p
agree_before c laws t (action.Assign x v) keeps p q h = agree_assigned c laws t x v keeps p q h
agree_before c laws t (action.Compute x v o w) keeps p q is = agree_itself c laws p q is
agree_before c laws t (action.New x r i) keeps p q h = agree_gone c laws (Local t x) p q h
agree_before c laws t (action.Load x b f) keeps p q h =
    agree_copied c laws (Local t x) (dot (var (variable_of t b)) f) keeps p q h
agree_before c laws t (action.Store b f v) keeps p q h =
    agree_stored c laws (variable_of t b) f (variable_in t v) keeps p q h
agree_before c laws t (action.Print v) keeps p q is = agree_itself c laws p q is

pub keeps_its_class : (s : SchemeView) → IsScheme s → (t : ℕ) (step : Label) → IsProgramStep s t step
    → KeepsItsClass s t step
keeps_its_class s scheme t (label.Act a) there p q h =
    agree_before s.classes (path_classes s.classes scheme.parted) t a
    (keeps_classes s.classes (thread_actions s.program) scheme.parted scheme.flow.closed (thread_action t a)
    there) p q h
keeps_its_class s scheme t (label.Test d) there p q is =
    agree_itself s.classes (path_classes s.classes scheme.parted) p q is
keeps_its_class s scheme t (label.Section i) there p q is =
    agree_itself s.classes (path_classes s.classes scheme.parted) p q is
