use Rattle.std.proofs.Common.{◌≡◌, map, take}
use Rattle.serde_json.specs.View.{view}
use Rattle.sect_lint.specs.Json.{call_json}
use Rattle.sect_lint.proofs.json.circle_value.Given as goal

abbrev pub invariant-loop-called : goal.invariant-loop-called
invariant-loop-called l = map view l.values.items ≡ map (call_json l.source) (take l.called-index l.calls)
