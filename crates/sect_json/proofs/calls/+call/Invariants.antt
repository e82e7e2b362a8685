use Rattle.std.proofs.Common.{◌≡◌, ◌++◌, ◌-◌, ◌+◌, ◌*◌, map, length, take}
use Rattle.std.specs.List.{flat_map}
use Rattle.serde_json.specs.View.{view}
use Rattle.sect_json.specs.{Values.{by_place}, Calls.{calls_at, calls_within, call_json}}
use Rattle.sect_json.proofs.calls.+call.Given as goal

abbrev pub decreases-put_call : goal.decreases-put_call
decreases-put_call l = 2 * l.most + 1

abbrev pub decreases-put_calls : goal.decreases-put_calls
decreases-put_calls l = 2 * l.most

abbrev pub invariant-put_calls-loop-named : goal.invariant-put_calls-loop-named
invariant-put_calls-loop-named l =
    map view l.values.items
    ≡ map view l.fn.values.items
    ++ by_place (call_json l.of.source.now) (length l.fn.values.items)
    (flat_map (calls_at (calls_within (l.most - 1) l.of.names.now) l.of.names.now l.scope)
    (take l.named-index l.of.names.now))
