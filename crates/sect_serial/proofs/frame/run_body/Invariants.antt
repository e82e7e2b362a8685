use Rattle.std.proofs.Common.{◌≡◌, true}
use Rattle.sect_types.specs.{Programs.{environment_at}, Sound.{IsSound}, Whole.{body_of}}
use Rattle.sect_serial.proofs.frame.run_body.Given as goal

abbrev pub invariant-steps : goal.invariant-steps
invariant-steps l = record {
  sound : IsSound (environment_at l.program l.thread) true l.rest;
  same : body_of l.program l.thread l.rest l.work l.store ≡ body_of l.program l.thread l.body l.fn.work l.fn.store;
}

abbrev pub decreases-steps : goal.decreases-steps
decreases-steps l = l.work.fuel
