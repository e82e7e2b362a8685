use Rattle.std.proofs.Common.{ℕ, [], ◌<◌, ◌-◌}
use Rattle.sect_types.specs.Whole.{begun}
use Rattle.sect_serial.specs.steps.States.{AreAhead, AreStates, GoesOn, IsKeptBy}
use Rattle.sect_serial.proofs.exploring.Search.states.Given as goal

abbrev pub invariant-places : goal.invariant-places
invariant-places l = record {
  states : AreStates l.self.program.now l.self.fuel l.self.most l.states;
  first : IsKeptBy l.states (begun l.self.program.now l.self.fuel) [];
  followed : (n : ℕ) → n < l.place → (t : ℕ) → GoesOn l.self.program.now l.states n t;
  ahead : AreAhead l.states l.place;
}

abbrev pub decreases-places : goal.decreases-places
decreases-places l = l.self.most - l.place
