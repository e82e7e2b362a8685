-- What the loop keeps.
use Rattle.std.proofs.Common.{◌≡◌, ◌≤◌, ◌+◌, take, length, vec_len, vec_capacity}
use Rattle.std.specs.Prelude.{option_map}
use Rattle.sect_draw.specs.{Placing.{AreThere, places_shown}, steps.Turning.{kept_shown}}
use Rattle.sect_draw.proofs.Charted.{SoFar}
use Rattle.sect_draw.proofs.charting.chart.Given as goal

abbrev pub invariant-loop-number : goal.invariant-loop-number
invariant-loop-number l = record {
  so : SoFar l.compiled l.fuel (option_map places_shown l.places) (take l.number l.schedule) l.world (kept_shown l.kept)
      l.rows.items;
  there : AreThere l.world.compiled l.kept.ran.items;
  count : vec_len l.rows ≡ 1 + l.number;
  room : 1 + length l.schedule ≤ vec_capacity l.rows;
}
