-- No state of a run is stuck.
use Rattle.std.proofs.Common.{subst}
use Rattle.sect_world.specs.{Blocked.{IsStuck}, Worlds.{WorldView}}
use Rattle.sect_world.proofs.Stuck.{no_state_is_stuck}
use Rattle.sect_world.proofs.world.World.facts.Goals as goal

pub returns-clause-going : goal.returns-clause-going
returns-clause-going c =
    let world = c.self.invariant.0 in
    subst (λ (z : WorldView). IsStuck z.state → ⊥) c.self.view_is (no_state_is_stuck _ world.compiled _ _ _ world.run)
