use Rattle.std.proofs.Common.{◌≡◌}
use Rattle.sect_types.specs.{Programs.{environment_at}, Whole.{ahead}}
use Rattle.sect_serial.specs.steps.Frames.{IsReady}
use Rattle.sect_serial.proofs.SoundLemmas.{room}
use Rattle.sect_serial.proofs.frame.Frame.run_ahead.Given as goal

abbrev pub invariant-steps : goal.invariant-steps
invariant-steps l = record {
  ready : IsReady (environment_at l.program l.thread) l.self;
  same : ahead l.program l.thread l.self ≡ ahead l.program l.thread l.fn.self;
  store : l.store ≡ l.fn.store;
}

abbrev pub decreases-steps : goal.decreases-steps
decreases-steps l = room l.self
