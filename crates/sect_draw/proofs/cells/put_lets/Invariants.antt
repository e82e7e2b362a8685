use Rattle.std.proofs.Common.{◌≡◌, ◌++◌, drop}
use Rattle.std.specs.{String.{string_bytes}, List.{flat_map}}
use Rattle.sect_draw.specs.Chart.{lets_text}
use Rattle.sect_draw.proofs.cells.put_lets.Given as goal

abbrev pub invariant-loop-event : goal.invariant-loop-event
invariant-loop-event l =
    string_bytes l.text ++ flat_map (lets_text l.program) (drop l.event-index l.events)
    ≡ string_bytes l.fn.text ++ flat_map (lets_text l.program) l.events
