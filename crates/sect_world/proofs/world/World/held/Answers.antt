-- The table knows what a thread holds.
use Rattle.std.proofs.Common.{◌≡◌, ◌<◌, length, sym, ◌∙◌, subst, arith}
use Rattle.sect_world.specs.{Sights.{mode_of}, Worlds.{WorldView}}
use Rattle.sect_world.proofs.{Viewing.{runner_there}, Sights.{holds_so}}
use Rattle.sect_world.proofs.world.World.held.Goals as goal

pub held-requires : goal.held-requires
held-requires c =
    let there = subst (λ (z : WorldView). c.args.thread < length z.state.threads) (sym c.self.view_is) c.requires in
    let w = c.self.invariant.0 in
    omega (arith, runner_there _ _ _ _ _ _ _ _ w c.args.thread there, w.as_many, w.as_many_held)

pub returns : goal.returns
returns c =
    let there = subst (λ (z : WorldView). c.args.thread < length z.state.threads) (sym c.self.view_is) c.requires in
    subst (λ (z : WorldView). c.held.result ≡ mode_of z.state c.args.thread c.args.key) c.self.view_is
    (c.held.ensures.mode ∙ holds_so _ _ _ _ _ _ _ _ c.self.invariant.0 c.args.thread c.args.key there)
