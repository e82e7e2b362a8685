use Rattle.std.proofs.Common.{◌≡◌, map, take}
use Rattle.serde_json.specs.View.{view}
use Rattle.sect_warnings.specs.Sarif.{result_json}
use Rattle.sect_warnings.proofs.sarif.results_value.Given as goal

abbrev pub invariant-loop-warning : goal.invariant-loop-warning
invariant-loop-warning l =
    map view l.results.items ≡ map (result_json l.uri l.source) (take l.warning-index l.placed)
