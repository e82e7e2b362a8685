-- Which locals never refer to an object.
use Rattle.std.specs.Prelude.{ℕ}
use Rattle.sect_points.specs.Sets.{PointsToView, InSets}
use Rattle.sect_points.specs.declared.holders.Holder.TheVariants as holder

-- no reference to an object comes to local x of thread t: its points-to set is empty
abbrev pub IsNeverFilled : PointsToView → ℕ → ℕ → Type 0
IsNeverFilled sets t x = (site : ℕ) → InSets sets (holder.Local t x) site → ⊥
