-- What the command `run` answers to a source text. `run_outcome` cites it.
use Rattle.std.specs.Prelude.{◌≡◌, ℕ, List}
use Rattle.sect_emit.specs.Compiled.{CompiledView, IsCompiledFrom, program_of}
use Rattle.sect_world.specs.{Runs.{order_of}, declared.world.Run.{Run}}
use Rattle.sect_run.specs.Ends.{IsWholeRun}
use Rattle.sect_answers.specs.{Formats.{outcome_in}, Serial.{IsOutcome}, declared.format.Format.{Format}}

-- the source is accepted, and this is the outcome of a complete run of its compiled program; it is what `serial`
-- answers for the order of that run's `leave` events
pub record IsOutcomeOfRun (source : List ℕ) (k fuel : ℕ) (format : Format) (text : List ℕ) : Type 0 where
  pub compiled : CompiledView
  pub from : IsCompiledFrom source k compiled
  pub run : Run
  pub whole : IsWholeRun compiled fuel run
  pub printed : text ≡ outcome_in format (program_of compiled) run.outcome
  pub serial : IsOutcome source fuel (order_of run.events.items) format text
