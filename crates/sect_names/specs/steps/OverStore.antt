-- Paths over a store, field by field.
use Rattle.std.specs.Prelude.{◌≡◌, ◌⊎◌, List, Option, Some}
use Rattle.sect_types.specs.declared.expansion.action.Field.{Field}
use Rattle.sect_lemmas.specs.Lists.{Has}
use Rattle.sect_points.specs.{declared.holders.Variable.{Variable}, Paths.{PathView, var}, Partitions.{ClassesView}}
use Rattle.sect_names.specs.Carrying.{GoesOn, AreOfOneClass}

-- q may denote before the store `z.f = w` what `p.g` denotes after it, where these paths may denote what p denotes
abbrev pub OverField : ClassesView → Variable → Field → Option Variable → PathView → Field → List PathView → PathView
    → Type 0
OverField c z f w p g paths q =
    ((r : PathView) × Has paths r × GoesOn z f g r q)
    ⊎ ((g ≡ f) × AreOfOneClass c p (var z) × ((v : Variable) × (w ≡ Some v) × (q ≡ var v)))
