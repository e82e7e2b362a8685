-- The end of a run.
use Rattle.std.proofs.Common.{◌≡◌, ℕ, sym, ◌∙◌, ap, subst}
use Rattle.sect_types.specs.Whole.{SerialEndView, RunsWhole}
use Rattle.sect_emit.specs.Compiled.{CompiledView, program_of}
use Rattle.sect_world.specs.{declared.world.Run.{Run}, Runs.{IsRun, IsComplete, order_of}}
use Rattle.sect_world.specs.Worlds.{WorldView, outcome_at}
use Rattle.sect_run.specs.Ends.{IsWholeRun}

-- a world of that program and fuel in which all threads have ended hands out a complete run of them
pub completed : (c : CompiledView) (fuel : ℕ) (w : WorldView) (r : Run) → w.compiled ≡ c → w.fuel ≡ fuel
    → r.events.items ≡ w.trace → r.outcome ≡ outcome_at w.state w.order → IsRun w.compiled w.fuel w.trace w.state
    → w.order ≡ order_of w.trace
    → (e : SerialEndView) × IsComplete w.state e × RunsWhole (program_of w.compiled) w.fuel w.order e
    → IsWholeRun c fuel r
completed c fuel w r of fuelled events outcome run order end = record {
  state = w.state;
  end = end.0;
  run = subst (λ es. IsRun c fuel es w.state) (sym events)
      (subst (λ z. IsRun z fuel w.trace w.state) of (subst (λ n. IsRun w.compiled n w.trace w.state) fuelled run));
  complete = end.1;
  outcome = outcome ∙ ap (outcome_at w.state) ordered;
  serial = subst (λ o. RunsWhole (program_of c) fuel o end.0) ordered
      (subst (λ z. RunsWhole (program_of z) fuel w.order end.0) of
      (subst (λ n. RunsWhole (program_of w.compiled) n w.order end.0) fuelled end.2));
} where
  ordered : w.order ≡ order_of r.events.items
  ordered = order ∙ ap order_of (sym events)
