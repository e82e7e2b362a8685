use Rattle.std.proofs.Common.{◌≡◌, map, take}
use Rattle.serde_json.specs.View.{view}
use Rattle.sect_json.specs.Compiling.{grip_json}
use Rattle.sect_json.proofs.compiling.grip_values.Given as goal

abbrev pub invariant-loop-grip : goal.invariant-loop-grip
invariant-loop-grip l = map view l.values.items ≡ map (grip_json l.program) (take l.grip-index l.grips)
