use Rattle.std.proofs.Common.{◌≡◌, map, take}
use Rattle.serde_json.specs.View.{view}
use Rattle.sect_json.specs.Locks.{lock_json}
use Rattle.sect_json.proofs.locks.locks_value.Given as goal

abbrev pub invariant-loop-lock : goal.invariant-loop-lock
invariant-loop-lock l = map view l.values.items ≡ map (lock_json l.program.source) (take l.lock-index l.locks)
