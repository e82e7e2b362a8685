-- Where statements stand, and the procedures that they may call.
use Rattle.std.specs.Prelude.{◌≡◌, ◌<◌, ℕ, Bool, List, length, map, slice_get, Some}
use Rattle.sect_front.specs.declared.tree.Procedure.{Procedure}
use Rattle.sect_types.specs.declared.rules.place.Place.{Place}
use Rattle.sect_types.specs.declared.rules.place.Place.TheVariants.{InThread, InProcedure}
use Rattle.sect_types.specs.{declared.counting.sums.Sums.{Sums}, Sums.{sums}, Sight.{Sight}, Rules.{Declared}}
use Rattle.sect_types.specs.steps.{Search.{returns}, Capped.{capped}}

pub record StandingView : Type 0 where
  pub procedures : List Procedure
  pub at : Place

-- what a statement sees, and the procedures
abbrev pub declared_by : Sight → List Procedure → Declared
declared_by s ps = record { records = s.records; globals = s.globals; procedures = ps; table = sums ps }

-- which procedures are p or reach it
pub record AreReturning (ps : List Procedure) (p : ℕ) (returning : List Bool) : Type 0 where
  pub as_many : length returning ≡ length ps
  pub each : (q : ℕ) → q < length ps → slice_get returning q ≡ Some (returns ps p q)

-- both in a thread, or both in one procedure
abbrev pub AreTogether : Place → Place → Type 0
AreTogether (InThread inside depth) (InThread inside_too depth_too) = Unit {0}
AreTogether (InProcedure p) (InProcedure q) = p ≡ q
AreTogether _ _ = ⊥

-- what a call there is judged by
abbrev pub IsReady : List Procedure → Place → List Sums → List Bool → Type 0
IsReady ps (InThread inside depth) table returning = table ≡ map capped (sums ps)
IsReady ps (InProcedure p) table returning = AreReturning ps p returning
