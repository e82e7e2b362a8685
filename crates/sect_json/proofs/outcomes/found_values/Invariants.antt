use Rattle.std.proofs.Common.{◌≡◌, map, take}
use Rattle.serde_json.specs.View.{view}
use Rattle.sect_json.specs.Outcomes.{found_json}
use Rattle.sect_json.proofs.outcomes.found_values.Given as goal

abbrev pub invariant-loop-number : goal.invariant-loop-number
invariant-loop-number l = map view l.values.items ≡ map (found_json l.program) (take l.number l.outcomes.found)
