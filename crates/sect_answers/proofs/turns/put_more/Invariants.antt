use Rattle.std.proofs.Common.{◌≡◌, ◌++◌, drop}
use Rattle.std.specs.String.{string_bytes}
use Rattle.sect_answers.specs.Turns.{more_text}
use Rattle.sect_answers.proofs.turns.put_more.Given as goal

abbrev pub invariant-loop-event : goal.invariant-loop-event
invariant-loop-event l = record {
  added : string_bytes l.text ++ more_text l.program (drop l.event-index l.events) ≡ string_bytes l.fn.text
      ++ more_text l.program l.events;
}
