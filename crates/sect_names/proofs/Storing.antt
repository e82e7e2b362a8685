-- Paths over a store.
use Rattle.std.proofs.Common.{◌≡◌, ◌↔◌, List, [], ◌∷◌, ◌++◌, Option, Some, None, sym, ap, ◌∙◌, inl, inr}
use Rattle.sect_lemmas.specs.Lists.{Has}
use Rattle.sect_lemmas.proofs.{Membership.{Has-cases, Has-left, Has-right}, Making.{one_has}}
use Rattle.sect_types.specs.declared.expansion.action.Field.{Field}
use Rattle.sect_points.specs.{declared.holders.Variable.{Variable}, Paths.{PathView, var, dot}}
use Rattle.sect_points.specs.Partitions.{ClassesView}
use Rattle.sect_names.specs.Carrying.{GoesOn, AreOfOneClass, BeforeStore}
use Rattle.sect_names.specs.steps.OverStore.{OverField}

module _ (c : ClassesView) (z : Variable) (f : Field) (w : Option Variable) (p : PathView) (g : Field)
    (paths : List PathView) where
  module _ (longer : List PathView)
      (goes : (q : PathView) → Has longer q ↔ ((r : PathView) × Has paths r × GoesOn z f g r q)) (o : Option Variable)
      (reads : (v : Variable) → (o ≡ Some v) ↔ ((g ≡ f) × AreOfOneClass c p (var z) × (w ≡ Some v))) where
    -- no value is read through the path
    pub over_none : o ≡ None → (q : PathView) → Has longer q ↔ OverField c z f w p g paths q
    over_none is q = (
      λ h. inl ((goes q).0 h),
      λ h. elim h [
        | inl a ↦ (goes q).1 a
        | inr b ↦ (let t = (reads b.2.0).1 (b.0, b.1, b.2.1) in absurd cc)
      ],
    )

    -- the value v may be read
    pub over_value : (v : Variable) → o ≡ Some v → (q : PathView)
        → Has (longer ++ var v ∷ []) q ↔ OverField c z f w p g paths q
    over_value v is q = (
      λ h. elim (Has-cases longer (var v ∷ []) q h) [
        | inl a ↦ inl ((goes q).0 a)
        | inr b ↦ (let t = (reads v).0 is in inr (t.0, t.1, (v, t.2, (one_has (var v) q).0 b)))
      ],
      λ h. elim h [
        | inl a ↦ Has-left longer (var v ∷ []) q ((goes q).1 a)
        | inr b ↦ (let t = (reads b.2.0).1 (b.0, b.1, b.2.1) in let same : v ≡ b.2.0 = cc in
            Has-right longer (var v ∷ []) q ((one_has (var v) q).1 (b.2.2 ∙ ap var (sym same))))
      ],
    )

  -- one field more
  pub over_before : ((q : PathView) → Has paths q ↔ BeforeStore c z f w p q) → (q : PathView)
      → OverField c z f w p g paths q ↔ BeforeStore c z f w (dot p g) q
  over_before before q = (
    λ h. elim h [ inl a ↦ inl (a.0, (before a.0).0 a.1, a.2) | inr b ↦ inr b ],
    λ h. elim h [ inl a ↦ inl (a.0, (before a.0).1 a.1, a.2) | inr b ↦ inr b ],
  )
