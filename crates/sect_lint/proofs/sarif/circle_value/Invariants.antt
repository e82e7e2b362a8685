use Rattle.std.proofs.Common.{◌≡◌, map, take}
use Rattle.serde_json.specs.View.{view}
use Rattle.sect_lint.specs.Sarif.{related_call}
use Rattle.sect_lint.proofs.sarif.circle_value.Given as goal

abbrev pub invariant-loop-called : goal.invariant-loop-called
invariant-loop-called l = map view l.values.items ≡ map (related_call l.uri l.source) (take l.called-index l.calls)
