use Rattle.std.proofs.Common.{◌≡◌, ◌++◌, map, drop}
use Rattle.serde_json.specs.View.{view}
use Rattle.sect_json.specs.Turns.{event_json}
use Rattle.sect_json.proofs.events.put_others.Given as goal

abbrev pub invariant-loop-event : goal.invariant-loop-event
invariant-loop-event l = record {
  added : map view l.values.items ++ map (event_json l.program) (drop l.event-index l.events)
      ≡ map view l.fn.values.items ++ map (event_json l.program) l.events;
}
