-- Paths that a statement leaves alone.
use Rattle.std.proofs.Common.{◌≡◌, ◌↔◌, ℕ, List, [], ◌∷◌, Option, Some, None, Bool, true, false, IsTrue, IsFalse}
use Rattle.std.proofs.Common.{refl, sym, ap, subst, ◌∙◌, inl, inr, arith}
use Rattle.std.specs.List.{list_any}
use Rattle.sect_lemmas.specs.Lists.{Has}
use Rattle.sect_lemmas.proofs.{Membership.{Has-left, Has-right}, Finding.{any_tells}}
use Rattle.sect_types.specs.declared.expansion.action.Field.{Field}
use Rattle.sect_types.specs.contracts.expansion.action.FieldPartialEq.TheImpl.{ghosts as the_field_eq}
use Rattle.sect_types.specs.{declared.expansion.action.Value.{Value}, declared.expansion.action.Label.{Label}}
use Rattle.sect_points.specs.declared.holders.Variable.{Variable}
use Rattle.sect_points.specs.declared.holders.Variable.TheVariants.{Global, Local}
use Rattle.sect_points.specs.{Paths.{PathView, var, dot, base_of, fields_of}, Partitions.{ClassesView}}
use Rattle.sect_names.specs.{declared.lock.Effect.{Effect}, declared.lock.Lock.{Lock}, Schemes.{SchemeView}}
use Rattle.sect_names.specs.{Locks.{IsPathIn, IsLockOf}, Touching.{LeavesOthers}}
use Rattle.sect_names.specs.Carrying.{Replaced, BeforeStore, BeforeAssignment, Before, LockOn, CarriedBack}
use Rattle.sect_names.proofs.Replacing.{replaced_other}
use Rattle.sect_names.proofs.shared.Telling.{field_tells}
use Rattle.sect_types.specs.declared.expansion.action.Value.TheVariants as value
use Rattle.sect_names.specs.declared.lock.Lock.TheVariants as lock
use Rattle.sect_names.specs.declared.touching.Change.TheVariants as change

-- what a test tells doesn't hold where the test is false
pub tells_off : {P : Type 0} {b : Bool} → IsTrue b ↔ P → IsFalse b → P → ⊥
tells_off {P} {b} tells off p =
    let on : b ≡ true = tells.1 p in
    let clash : true ≡ false = sym on ∙ off in
    absurd cc

-- a path that begins with another variable stays where that gets a value
pub untouched_base : (x : Variable) (source : Option PathView) (p q : PathView) → (base_of p ≡ x → ⊥)
    → Replaced x source p q ↔ (q ≡ p)
untouched_base x source p q other = let tells = replaced_other x source p q other in (λ h. tells.1 h, λ e. tells.0 e)

pub untouched_assignment : (t x : ℕ) (v : Value) (p q : PathView) → (base_of p ≡ Local t x → ⊥)
    → BeforeAssignment t x v p q ↔ (q ≡ p)
untouched_assignment t x (value.Number n) p q other = (λ e. e, λ e. e)
untouched_assignment t x value.Null p q other = untouched_base (Local t x) None p q other
untouched_assignment t x (value.Local y) p q other = untouched_base (Local t x) (Some (var (Local t y))) p q other
untouched_assignment t x (value.Global g) p q other = untouched_base (Local t x) (Some (var (Global g))) p q other

-- a path that doesn't follow the field stays over a store to it
pub untouched_field : (c : ClassesView) (z : Variable) (f : Field) (w : Option Variable) (p q : PathView)
    → (Has (fields_of p) f → ⊥) → BeforeStore c z f w p q ↔ (q ≡ p)
untouched_field c z f w (var v) q n = (λ h. h, λ e. e)
untouched_field c z f w (dot p g) q n =
    let less : Has (fields_of p) f → ⊥ = λ h. n (Has-left (fields_of p) (g ∷ []) f h) in
    let apart : g ≡ f → ⊥ = λ e. n (Has-right (fields_of p) (g ∷ []) f (inl e)) in (
      λ h. elim h [
        | inl a ↦ a.2.1 ∙ ap (λ r. dot r g) ((untouched_field c z f w p a.0 less).0 a.1)
        | inr b ↦ absurd (apart b.0)
      ],
      λ e. inl (p, (untouched_field c z f w p p less).1 refl, ((λ k. apart k.0), e)),
    )

-- the lock on a path that the step leaves alone stays, if it is one of the program's
pub untouched_lock : (s : SchemeView) (t : ℕ) (step : Label) (p : PathView) (e : Effect)
    → ((q : PathView) → Before s.classes t step p q ↔ (q ≡ p)) → IsPathIn s t p
    → (l : Lock) → CarriedBack s t step (lock.Path p e) l ↔ (l ≡ lock.Path p e)
untouched_lock s t step p e alone there l = (
  λ h. elim (subst (λ q. LockOn s e q l) ((alone h.0).0 h.1) h.2).2 [
    | inl a ↦ a.1
    | inr b ↦ absurd (omega (arith, there.short, b.0))
  ],
  λ is. (p, (alone p).1 refl, (there.classed.0, there.classed.1, inl (there.short, is))),
)

-- where nothing changes, each lock does
pub untouched_any : (s : SchemeView) (t : ℕ) (step : Label) → LeavesOthers t step change.Nothing → (k : Lock)
    → IsLockOf s t k → (l : Lock) → CarriedBack s t step k l ↔ (l ≡ k)
untouched_any s t step others lock.All lawful l = (λ h. h, λ h. h)
untouched_any s t step others (lock.Class c r) lawful l = (λ h. h, λ h. h)
untouched_any s t step others (lock.Path p e) lawful l =
    untouched_lock s t step p e (λ q. others p tt s.classes q) lawful l

-- a field is among others
pub has_field : (fs : List Field) (f : Field) → (list_any (λ g. the_field_eq.eq g f) fs ≡ true) ↔ Has fs f
has_field fs f = any_tells (λ a b. the_field_eq.eq b a)
    (λ a b. (λ t. sym ((field_tells b a).0 t), λ e. (field_tells b a).1 (sym e))) fs f
