use Rattle.std.proofs.Common.{◌≡◌, ◌<◌, ℕ, Some}
use Rattle.std.specs.Prelude.{slice_get}
use Rattle.sect_points.specs.{Sets.{InSets}, declared.holders.Holder.TheVariants.{Slot}}
use Rattle.sect_editor.proofs.objects.field_has.Given as goal

-- no site of the record so far
abbrev pub invariant-loop-base : goal.invariant-loop-base
invariant-loop-base l =
    (o : ℕ) → o < l.base → slice_get l.records o ≡ Some l.fn.of → InSets l.points (Slot o l.fn.field) l.fn.site → ⊥
