use Rattle.std.proofs.Common.{◌≡◌, map, take}
use Rattle.serde_json.specs.View.{view}
use Rattle.sect_json.specs.Values.{count}
use Rattle.sect_json.proofs.outcomes.order_value.Given as goal

abbrev pub invariant-loop-thread : goal.invariant-loop-thread
invariant-loop-thread l = map view l.values.items ≡ map count (take l.thread-index l.order)
