use Rattle.std.proofs.Common.{◌≡◌, ◌++◌, drop}
use Rattle.std.specs.String.{string_bytes}
use Rattle.sect_store.specs.Printing.{by_place}
use Rattle.sect_answers.specs.Outcomes.{one_text, outcomes_text}
use Rattle.sect_answers.proofs.outcomes.put_outcomes.Given as goal

abbrev pub invariant-loop-number : goal.invariant-loop-number
invariant-loop-number l = record {
  added : string_bytes l.text ++ by_place (one_text l.program) l.number (drop l.number l.outcomes.found)
      ≡ string_bytes l.fn.text ++ outcomes_text l.program l.outcomes;
}
