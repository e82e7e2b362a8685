use Rattle.std.proofs.Common.{◌≡◌, map, take}
use Rattle.serde_json.specs.View.{view}
use Rattle.sect_json.specs.Outcomes.{thread_json}
use Rattle.sect_json.proofs.outcomes.threads_value.Given as goal

abbrev pub invariant-loop-end : goal.invariant-loop-end
invariant-loop-end l = map view l.values.items ≡ map thread_json (take l.end-index l.ends)
