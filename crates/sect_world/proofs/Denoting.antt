-- A path denotes the same in two stores that agree on its beginnings.
use Rattle.std.proofs.Common.{◌≡◌, inl, inr, List, refl, ap, ◌∙◌}
use Rattle.sect_types.specs.{declared.expansion.action.Field.{Field}, declared.meaning.store.ObjectName.{ObjectName}}
use Rattle.sect_types.specs.declared.meaning.store.Datum.{Datum}
use Rattle.sect_types.specs.declared.meaning.store.Datum.TheVariants.{Number, Null, Refers}
use Rattle.sect_types.specs.Store.{StoreView, object_at}
use Rattle.sect_points.specs.Paths.{PathView, var, dot}
use Rattle.sect_names.specs.Along.{GoesBy}
use Rattle.sect_emit.specs.Plan.{field_datum, field_of, path_datum}

-- a path denotes the same in two stores where its beginnings denote the same objects
pub path_stays : (s s' : StoreView) (locals : List Datum) (p : PathView)
    → ((q : PathView) (f : Field) (o : ObjectName) → GoesBy p q f → path_datum s locals q ≡ Refers o
    → object_at s' o ≡ object_at s o)
    → path_datum s' locals p ≡ path_datum s locals p
path_stays s s' locals (var v) same = refl
path_stays s s' locals (dot e f) same =
    ap (λ d. field_of s' d f.number) (path_stays s s' locals e (λ q g o goes is. same q g o (inr goes) is))
    ∙ by (path_datum s locals e) refl
  where
    by : (d : Datum) → path_datum s locals e ≡ d → field_of s' d f.number ≡ field_of s d f.number
    by (Number n) is = refl
    by Null is = refl
    by (Refers o) is = ap (λ x. field_datum x f.number) (same e f o (inl (refl, refl)) is)
