-- A step keeps references within the points-to sets, and what a path denotes lies in its set.
use Rattle.std.proofs.Common.{◌≡◌, ℕ, List, refl}
use Rattle.sect_types.specs.{declared.expansion.action.Base.{Base}, declared.meaning.store.Datum.{Datum}}
use Rattle.sect_types.specs.Meaning.{base_datum}
use Rattle.sect_emit.specs.Plan.{variable_datum}
use Rattle.sect_points.specs.PathClasses.{variable_of}
use Rattle.sect_types.specs.declared.expansion.action.Base.TheVariants as base

-- what the base of a statement denotes is what its variable does
pub base_variable : (t : ℕ) (locals : List Datum) (b : Base)
    → variable_datum locals (variable_of t b) ≡ base_datum locals b
base_variable t locals (base.Local x) = refl
base_variable t locals (base.Global g) = refl
