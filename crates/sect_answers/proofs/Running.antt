-- The outcome of a run that threads have made.
use Rattle.std.proofs.Common.{◌≡◌, ◌∙◌, ℕ, List, sym, ap, subst}
use Rattle.sect_types.specs.Whole.{SerialEndView, RunsWhole}
use Rattle.sect_store.specs.Outcomes.{OutcomeView}
use Rattle.sect_serial.specs.Judging.{outcome_of}
use Rattle.sect_emit.specs.{Compiled.{CompiledView, IsCompiledFrom, program_of}, State.{State}}
use Rattle.sect_world.specs.{declared.world.Run.{Run}, Runs.{IsComplete, order_of}, Worlds.{outcome_at}}
use Rattle.sect_run.specs.Ends.{IsWholeRun}
use Rattle.sect_answers.specs.{Formats.{outcome_in}, Running.{IsOutcomeOfRun}, Serial.{IsOutcome}}
use Rattle.sect_answers.specs.declared.format.Format.{Format}

-- the outcome that a complete run comes to is the one that whole sections come to in its order
ended_so : (s : State) (e : SerialEndView) (order : List ℕ) → IsComplete s e → outcome_at s order ≡ outcome_of order e
ended_so s e order is = λ i. record {
  ends = is.ends i;
  order = order;
  output = sym is.output i;
  store = sym is.store i;
}

-- so what is printed of it is what `serial` answers for its order
pub serial_of_run : (source : List ℕ) (k fuel : ℕ) (format : Format) (text : List ℕ) (compiled : CompiledView)
    → IsCompiledFrom source k compiled → (run : Run) → IsWholeRun compiled fuel run
    → text ≡ outcome_in format (program_of compiled) run.outcome
    → IsOutcome source fuel (order_of run.events.items) format text
serial_of_run source k fuel format text compiled from run whole printed = record {
  program = program_of compiled;
  typed = from.accepted.text;
  end = whole.end;
  runs = whole.serial;
  printed = printed
      ∙ ap (λ (o : OutcomeView). outcome_in format (program_of compiled) o)
      (whole.outcome ∙ ended_so whole.state whole.end (order_of run.events.items) whole.complete);
}

-- and a run of the compiled program that is printed is what `run` answers to its source
pub outcome_of_run : (source : List ℕ) (k fuel : ℕ) (format : Format) (text : List ℕ) (compiled : CompiledView)
    → IsCompiledFrom source k compiled → (run : Run) → IsWholeRun compiled fuel run
    → text ≡ outcome_in format (program_of compiled) run.outcome → IsOutcomeOfRun source k fuel format text
outcome_of_run source k fuel format text compiled from run whole printed = record {
  compiled = compiled;
  from = from;
  run = run;
  whole = whole;
  printed = printed;
  serial = serial_of_run source k fuel format text compiled from run whole printed;
}

-- whole sections come to an end in the order of a run
pub runs_so : (compiled : CompiledView) (fuel : ℕ) (run : Run) → IsWholeRun compiled fuel run
    → (end : SerialEndView) × RunsWhole (program_of compiled) fuel run.outcome.order end
runs_so compiled fuel run whole = (
  whole.end,
  subst (λ (order : List ℕ). RunsWhole (program_of compiled) fuel order whole.end)
      (sym (ap (λ (o : OutcomeView). o.order) whole.outcome)) whole.serial,
)
