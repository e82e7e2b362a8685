-- Paths that a statement leaves alone.
use Rattle.std.specs.Prelude.{◌≡◌, ◌↔◌, ℕ, ⊤}
use Rattle.sect_lemmas.specs.Lists.{Has}
use Rattle.sect_types.specs.declared.expansion.action.Label.{Label}
use Rattle.sect_points.specs.{Paths.{PathView, base_of, fields_of}, Partitions.{ClassesView}}
use Rattle.sect_names.specs.{Carrying.{Before}, declared.touching.Change.{Change}}
use Rattle.sect_names.specs.declared.touching.Change.TheVariants as change

-- a path is not among what changes
abbrev pub IsOther : Change → PathView → Type 0
IsOther change.Nothing p = ⊤
IsOther (change.Base x) p = base_of p ≡ x → ⊥
IsOther (change.Field f) p = Has (fields_of p) f → ⊥

-- any other path alone may denote before the node what it denotes after it
abbrev pub LeavesOthers : ℕ → Label → Change → Type 0
LeavesOthers t label what = (p : PathView) → IsOther what p → (classes : ClassesView) (q : PathView)
    → Before classes t label p q ↔ (q ≡ p)
