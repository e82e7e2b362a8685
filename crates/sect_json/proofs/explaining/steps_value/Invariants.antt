use Rattle.std.proofs.Common.{◌≡◌, map, take}
use Rattle.serde_json.specs.View.{view}
use Rattle.sect_json.specs.Explaining.{step_json}
use Rattle.sect_json.proofs.explaining.steps_value.Given as goal

abbrev pub invariant-loop-link : goal.invariant-loop-link
invariant-loop-link l = map view l.values.items ≡ map (step_json l.compiled l.section) (take l.link-index l.links)
