use Rattle.std.proofs.Common.{◌<◌, length, sym, subst, arith}
use Rattle.sect_world.specs.Worlds.{WorldView}
use Rattle.sect_world.proofs.Viewing.{runner_there}
use Rattle.sect_world.proofs.world.World.lend_section.Goals as goal

pub index-runner-requires : goal.index-runner-requires
index-runner-requires c =
    let there = subst (λ (z : WorldView). c.args.thread < length z.state.threads) (sym c.self.view_is)
    c.requires.thread in
    omega (arith, runner_there _ _ _ _ _ _ _ _ c.self.invariant.0 c.args.thread there, c.self.inside.moment.runners.ok)
