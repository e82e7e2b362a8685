use Rattle.std.proofs.Common.{◌≡◌, ◌++◌, drop}
use Rattle.std.specs.String.{string_bytes}
use Rattle.sect_draw.specs.Chart.{let_in_text}
use Rattle.sect_draw.proofs.cells.put_let_in.Given as goal

abbrev pub invariant-loop-event : goal.invariant-loop-event
invariant-loop-event l =
    string_bytes l.text ++ let_in_text l.program l.thread (drop l.event-index l.events)
    ≡ string_bytes l.fn.text ++ let_in_text l.program l.thread l.events
